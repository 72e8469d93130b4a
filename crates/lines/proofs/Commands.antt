-- The command that the parts of `read` find in a line is that of the grammar. Assumes nothing.
use Prim.Native.Nat.{ℕ, zero, suc, ◌+◌, ◌-◌, ◌≤◌, ◌<◌, max}
use mathlib.Core.Path.{◌≡◌, refl, sym, ap, ◌∙◌}
use mathlib.Core.Bool.{Bool, true, false, ◌&&◌}
use mathlib.Core.List.{List, [], ◌∷◌, map}
use mathlib.Core.Logic.{◌⊎◌, inl, inr}
use native.Mathlib.Nat.{le_trans, le_of_suc-le-suc}
use native.Mathlib.Numerals.{add-one}
use native.Mathlib.Omega.{arith}
use borrow.Author.Tests.{lt-ltb, le-ltb, leb-true, leb-false, eqb-true, ne_eqb}
use lib.Dec.{eqb, leb, ltb, leb-suc-suc}
use lib.ListN.{length, get_or, take, drop, length-map, drop_of_length-le}
use Rattle.std.proofs.Common.{Option, Some, None}
use Rattle.std.specs.Str.{bytes_eq}
use Rattle.lists.specs.Tests.{pick, every}
use Rattle.lists.specs.Arrays.{laid}
use Rattle.lists.proofs.Bools.{and_left, and_right, and-false, below_or}
use Rattle.lines.specs.declared.Command.{Command}
use Rattle.lines.specs.declared.Command.TheVariants.{Broken, Check}
use Rattle.lines.specs.declared.reading.Numbers.{Numbers}
use Rattle.lines.specs.Text.{comma, same, first_at, before}
use Rattle.lines.specs.Grammar.{on_first, fields, is_number, value_from, value, is_bit, is_bits, loads_of, Form, numbers, bits, table, find_form, parse, meant}
use Rattle.lines.specs.Reading.{fields_after, most_numbers, numbers_in, bits_of, most_from, most_after, row_command}
use Rattle.lines.proofs.Same.{same-is, same_refl, not_same, same_bytes}
use Rattle.lines.proofs.Fields.{Cons, cons, fields-cons}
use Rattle.lines.proofs.Rows.{check, Kept, kept, most-least, most-few}

-- ---- a line: its word, and the fields after it
abbrev pub word_in : List ℕ → List ℕ
word_in s = take (before comma s) s

word_split : (s : List ℕ) → fields s ≡ word_in s ∷ fields_after (before comma s) s
unfolding fields first_at before fields_after
word_split [] = refl
word_split (b ∷ bs) = go (eqb b comma) (word_split bs)
  where
    go : (t : Bool) → fields bs ≡ word_in bs ∷ pick (ltb (before comma bs) (length bs)) (fields (drop (before comma bs + 1) bs)) []
        → pick t ([] ∷ fields bs) (on_first b (fields bs))
        ≡ take (pick t 0 (suc (before comma bs))) (b ∷ bs)
        ∷ pick (ltb (pick t 0 (suc (before comma bs))) (suc (length bs))) (fields (drop (pick t 0 (suc (before comma bs)) + 1) (b ∷ bs))) []
    go true ih = rw (lt-ltb 0 (suc (length bs)) (omega arith))
    go false ih = rw (ih, add-one (suc (before comma bs)), add-one (before comma bs), leb-suc-suc (suc (before comma bs)) (length bs))

-- fields that are no numbers, or more of them than m, are not as many numbers as n, which is no more
not-fitting : (a : Bool) (k n m : ℕ) → n ≤ m → a && leb k m ≡ false → eqb k n && a ≡ false
not-fitting true k n m l h = rw (ne_eqb k n (λ e. absurd (omega (arith, leb-false k m h))))
not-fitting false k n m l h = and-false (eqb k n)

laid-at : (d n : ℕ) (xs : List ℕ) → length xs ≤ n → (i : ℕ) → get_or (laid d n xs) i d ≡ get_or xs i d
unfolding laid
laid-at d zero [] h i = refl
laid-at d zero (x ∷ xs) h i = absurd (omega arith)
laid-at d (suc n) [] h zero = refl
laid-at d (suc n) [] h (suc i) = laid-at d n [] (omega arith) i
laid-at d (suc n) (x ∷ xs) h zero = refl
laid-at d (suc n) (x ∷ xs) h (suc i) = laid-at d n xs (le_of_suc-le-suc h) i

-- the values of the fields, as they lie after one another
map_at : (fs : List (List ℕ)) (i : ℕ) → get_or (map value fs) i 0 ≡ value (get_or fs i [])
unfolding value_from
map_at [] zero = refl
map_at [] (suc i) = refl
map_at (f ∷ fs) zero = refl
map_at (f ∷ fs) (suc i) = map_at fs i

-- with all fields numbers, it is their values that the table is asked for
pub find-meant : (w : List ℕ) → same check w ≡ false → (fs : List (List ℕ)) → every is_number fs ≡ true → (xs : List Form) → Kept xs → find_form xs w fs ≡ meant xs w (map value fs)
unfolding find_form meant
find-meant w o fs h [] q = refl
find-meant w o fs h (numbers v n f ∷ xs) q = rw (h, length-map fs value, find-meant w o fs h xs q.1) (simp map_at (go (same v w) (eqb (length fs) n)))
  where
    go : (x y : Bool) → pick (x && y && true) (f (λ k. value (get_or fs (k - 1) []))) (meant xs w (map value fs)) ≡ pick (x && y) (f (λ k. value (get_or fs (k - 1) []))) (meant xs w (map value fs))
    go true true = refl
    go true false = refl
    go false y = refl
find-meant w o fs h (bits v f ∷ xs) q = rw (q.0, o) (find-meant w o fs h xs q.1)

-- what the numbers after a word ask for, if they are numbers in form
abbrev pub given : (word : List ℕ) → Option Numbers → Command
given w None = Broken
given w (Some n) = row_command table w n

module _ (w : List ℕ) (other : same check w ≡ false) where
  -- the row sees no more of the numbers than there are
  meant-row : (ns : List ℕ) → length ns ≤ most_numbers → (xs : List Form) → meant xs w ns ≡ row_command xs w (record { count = length ns; values = laid 0 most_numbers ns })
  unfolding meant row_command
  meant-row ns few [] = refl
  meant-row ns few (numbers v n f ∷ xs) = rw (meant-row ns few xs) (simp (laid-at 0 most_numbers ns few))
  meant-row ns few (bits v f ∷ xs) = meant-row ns few xs

  -- fields that are no numbers, or more of them than any row of the word has
  find-broken : (fs : List (List ℕ)) (xs : List Form) → Kept xs → (k : ℕ) → every is_number fs && leb (length fs) (most_from k w xs) ≡ false → find_form xs w fs ≡ Broken
  unfolding find_form most_from
  find-broken fs [] q k h = refl
  find-broken fs (numbers v n f ∷ xs) q k h = rw (no (same v w) refl) (find-broken fs xs q.1 next h)
    where
      next : ℕ
      next = pick (same v w) (max n k) k

      reached : same v w ≡ true → n ≤ next
      reached e = rw e (omega arith)

      no : (t : Bool) → same v w ≡ t → t && eqb (length fs) n && every is_number fs ≡ false
      no true e = not-fitting (every is_number fs) (length fs) n (most_from next w xs) (le_trans (reached e) (most-least next w xs)) h
      no false e = refl
  find-broken fs (bits v f ∷ xs) q k h = rw (q.0, other) (find-broken fs xs q.1 k h)

  -- the command that is found by the rows is that of the grammar
  with-find : (fs : List (List ℕ)) → given w (numbers_in (most_after w table) fs) ≡ find_form table w fs
  unfolding numbers_in
  with-find fs = go (every is_number fs && leb (length fs) m) refl
    where
      m : ℕ
      m = most_after w table

      go : (t : Bool) → every is_number fs && leb (length fs) m ≡ t → given w (numbers_in m fs) ≡ find_form table w fs
      go true e =
          let few = leb-true (length fs) m (and_right (every is_number fs) (leb (length fs) m) e) in
          let row = meant-row (map value fs) (omega (arith, length-map fs value, most-few w table kept 0 (omega arith))) table in
          rw e (sym (find-meant w other fs (and_left (every is_number fs) (leb (length fs) m) e) table kept ∙ rw (length-map fs value) at row))
      go false e = rw e (sym (find-broken fs table kept 0 e))

-- ---- one field of bits is the whole rest of the line
abbrev checked : List (List ℕ) → Command
checked fs = pick (eqb (length fs) 1 && every is_bits fs) (Check (loads_of (get_or fs 0 [])) (length (get_or fs 0 []))) Broken

one_field : (t : List ℕ) → (fields t ≡ t ∷ []) ⊎ ((eqb (length (fields t)) 1 ≡ false) × (every is_bit t ≡ false))
unfolding fields every
one_field [] = inl refl
one_field (b ∷ bs) = go (eqb b comma) refl (one_field bs)
  where
    count : (fs : List (List ℕ)) → length (on_first b fs) ≡ length fs
    count [] = refl
    count (f ∷ fs) = refl

    go : (t : Bool) → eqb b comma ≡ t → (fields bs ≡ bs ∷ []) ⊎ ((eqb (length (fields bs)) 1 ≡ false) × (every is_bit bs ≡ false))
        → (pick t ([] ∷ fields bs) (on_first b (fields bs)) ≡ (b ∷ bs) ∷ []) ⊎ ((eqb (length (pick t ([] ∷ fields bs) (on_first b (fields bs)))) 1 ≡ false) × (is_bit b && every is_bit bs ≡ false))
    go true e ih = inr (ne_eqb (suc (length (fields bs))) 1 (λ q. some (fields bs) (fields-cons bs) (omega arith)), rw (eqb-true b comma e))
      where
        some : (fs : List (List ℕ)) → Cons fs → length fs ≡ 0 → ⊥
        some fs (cons f gs) q = omega arith
    go false e (inl q) = inl (rw q)
    go false e (inr q) = inr (rw (count (fields bs)) q.0, rw q.1 (and-false (is_bit b)))

no_bits : (t : List ℕ) → every is_bit t ≡ false → is_bits t ≡ false
unfolding is_bits
no_bits t h = rw (h, and-false (leb 1 (length t)))

bits-field : (t : List ℕ) → checked (fields t) ≡ bits_of t
unfolding bits_of every
bits-field t = go (one_field t)
  where
    whole : (u : Bool) → pick (u && true) (Check (loads_of t) (length t)) Broken ≡ pick u (Check (loads_of t) (length t)) Broken
    whole true = refl
    whole false = refl

    go : (fields t ≡ t ∷ []) ⊎ ((eqb (length (fields t)) 1 ≡ false) × (every is_bit t ≡ false))
        → checked (fields t) ≡ pick (is_bits t) (Check (loads_of t) (length t)) Broken
    go (inl e) = rw e (whole (is_bits t))
    go (inr e) = rw (e.0, no_bits t e.1)

-- ---- a line of bytes
find-check : (fs : List (List ℕ)) → find_form table check fs ≡ checked fs
unfolding find_form same
find-check fs = refl

empty-bits : bits_of [] ≡ Broken
unfolding bits_of is_bits
empty-bits = refl

bits-after : (e : ℕ) (s : List ℕ) → bits_of (drop (e + 1) s) ≡ checked (fields_after e s)
unfolding fields_after
bits-after e s = go (below_or e (length s))
  where
    go : (e < length s) ⊎ (length s ≤ e) → bits_of (drop (e + 1) s) ≡ checked (fields_after e s)
    go (inl l) = rw (lt-ltb e (length s) l) (sym (bits-field (drop (e + 1) s)))
    go (inr l) = rw (le-ltb e (length s) l, drop_of_length-le s {i = e + 1} (omega arith)) empty-bits

module _ (s : List ℕ) where
  parse-find : parse s ≡ find_form table (word_in s) (fields_after (before comma s) s)
  unfolding parse
  parse-find = rw (word_split s)

  -- a word that is not the one before bits: the table has it before numbers, or not at all
  numbers-parse : same check (word_in s) ≡ false → {o : Option Numbers} → o ≡ numbers_in (most_after (word_in s) table) (fields_after (before comma s) s)
      → given (word_in s) o ≡ parse s
  numbers-parse other {o} e = ap (given (word_in s)) e ∙ with-find (word_in s) other (fields_after (before comma s) s) ∙ sym parse-find

  -- the word before bits
  bits-parse : word_in s ≡ check → bits_of (drop (before comma s + 1) s) ≡ parse s
  bits-parse w = bits-after (before comma s) s ∙ sym (parse-find ∙ rw w (find-check (fields_after (before comma s) s)))

  -- as the code tests the word that ends at a place
  module _ {e : ℕ} (ends : e ≡ before comma s) where
    pub read-bits : bytes_eq (take e s) check ≡ true → bits_of (drop (e + 1) s) ≡ parse s
    read-bits h = rw ends (bits-parse (rw ends at (same-is (take e s) check (sym (same_bytes (take e s) check) ∙ h))))

    pub read-numbers : bytes_eq (take e s) check ≡ false → {m : ℕ} → m ≡ most_after (take e s) table → {o : Option Numbers} → o ≡ numbers_in m (fields_after e s) → given (take e s) o ≡ parse s
    read-numbers h {m} k {o} q = rw ends (numbers-parse (rw ends at other) (rw (k, ends) at q))
      where
        other : same check (take e s) ≡ false
        other = not_same check (take e s) (λ w. let z : true ≡ false = sym (same_refl check) ∙ rw (← w) at (sym (same_bytes (take e s) check) ∙ h) in cc)
