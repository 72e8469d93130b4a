-- Lines as they are written are read back: each as the command that it stands for. Assumes nothing.
use Prim.Native.Nat.{ℕ, zero, suc, ◌+◌, ◌-◌, ◌≤◌, ◌<◌}
use mathlib.Core.Path.{◌≡◌, refl, ap, ◌∙◌}
use mathlib.Core.Bool.{Bool, true, false, ◌&&◌, not}
use mathlib.Core.List.{List, [], ◌∷◌, map}
use native.Mathlib.Omega.{arith}
use borrow.Author.Tests.{le-leb, ltb-true, eqb-true, eq-eqb, ne_eqb, not-true}
use lib.Dec.{eqb, ltb}
use lib.ListN.{length, get_or}
use Rattle.lists.specs.Tests.{pick, some, every, distinct}
use Rattle.lists.specs.Each as each
use Rattle.lists.proofs.Bools.{and_left, and_right, or_left, or_right}
use Rattle.marks.specs.declared.LoadSet.{LoadSet}
use Rattle.marks.specs.Sets.{has_load}
use Rattle.lines.specs.declared.SaveForm.{SaveForm}
use Rattle.lines.specs.declared.Change as change
use Rattle.lines.specs.declared.Command.{Command}
use Rattle.lines.specs.declared.Command.TheVariants.{Change, Check, Broken}
use Rattle.lines.specs.Text.{comma, nought, same, decimal}
use Rattle.lines.specs.Grammar.{fields, is_number, value, is_bit, is_bits, loads_of, Form, numbers, bits, table, find_form, parse, meant, told, line_of}
use Rattle.lines.specs.Written.{parted, line, Short, written, bits_in, written_check}
use Rattle.lines.proofs.Same.{same-is, same_refl}
use Rattle.lines.proofs.Decimal.{decimal-digits, decimal-form, decimal-value}
use Rattle.lines.proofs.Without.{Without, none, byte, without-digits, fields-first, fields-last}
use Rattle.lines.proofs.Rows.{check, is_letter, Row, Kept, kept}
use Rattle.lines.proofs.Commands.{find-meant}

-- ---- a word and numbers
-- neither a comma nor a line feed
pub letters-without : (x : ℕ) → x ≤ comma → (w : List ℕ) → every is_letter w ≡ true → Without x w
unfolding every
letters-without x l [] h = none
letters-without x l (b ∷ w) h =
    byte (ne_eqb b x (λ e. absurd (omega (arith, ltb-true comma b (and_left (ltb comma b) (ltb b 256) (and_left (is_letter b) (every is_letter w) h))))))
    (letters-without x l w (and_right (is_letter b) (every is_letter w) h))

word : (w : List ℕ) → every is_letter w ≡ true → Without comma w
word w h = letters-without comma (omega arith) w h

pub line-fields : (ns : List ℕ) {w : List ℕ} → Without comma w → fields (line w ns) ≡ w ∷ map decimal ns
unfolding parted
line-fields [] p = fields-last p
line-fields (n ∷ ns) {w} p =
    fields-first (line (decimal n) ns) p
    ∙ ap (λ (fs : List (List ℕ)). w ∷ fs) (line-fields ns (without-digits comma (omega arith) (decimal n) (decimal-digits n)))

all-numbers : {ns : List ℕ} → Short ns → every is_number (map decimal ns) ≡ true
unfolding every
all-numbers each.none = refl
all-numbers (each.more {x = n} h p) = rw (decimal-form n h) (all-numbers p)

all-values : (ns : List ℕ) → map value (map decimal ns) ≡ ns
all-values [] = refl
all-values (n ∷ ns) = rw (decimal-value n, all-values ns)

-- the line of a word and numbers is read as what the table has for them
pub line-meant : (w ns : List ℕ) → every is_letter w ≡ true → same check w ≡ false → Short ns → parse (line w ns) ≡ meant table w ns
unfolding parse
line-meant w ns l o s = rw (line-fields ns (word w l)) (find-meant w o (map decimal ns) (all-numbers s) table kept ∙ rw (all-values ns))

-- ---- the lines of a row: no row stands in the shade of an earlier one
pub data In (w : List ℕ) (n : ℕ) (f : (ℕ → ℕ) → Command) : List Form → Type 0 where
  here : {xs : List Form} → In w n f (numbers w n f ∷ xs)
  there : {x : Form} {xs : List Form} → In w n f xs → In w n f (x ∷ xs)

alike : Form → Form → Bool
alike (numbers v m g) (numbers w n f) = same v w && eqb n m
alike (numbers v m g) (bits w f) = false
alike (bits v g) (numbers w n f) = false
alike (bits v g) (bits w f) = false

apart : distinct alike table ≡ true
unfolding distinct some alike same
apart = refl

module _ {w : List ℕ} {n : ℕ} {f : (ℕ → ℕ) → Command} where
  none_alike : (x : Form) {xs : List Form} → some (alike x) xs ≡ false → In w n f xs → alike x (numbers w n f) ≡ false
  unfolding some
  none_alike x h (here {xs = xs}) = or_left (alike x (numbers w n f)) (some (alike x) xs) h
  none_alike x h (there {x = y} {xs = xs} p) = none_alike x (or_right (alike x y) (some (alike x) xs) h) p

  meant-in : {xs : List Form} → distinct alike xs ≡ true → In w n f xs → (ns : List ℕ) → length ns ≡ n → meant xs w ns ≡ f (λ k. get_or ns (k - 1) 0)
  unfolding distinct meant alike
  meant-in d here ns e = rw (same_refl w, eq-eqb (length ns) n e)
  meant-in d (there {x = numbers v m g} {xs = xs} p) ns e =
      let o : same v w && eqb n m ≡ false = none_alike (numbers v m g) (not-true (some (alike (numbers v m g)) xs) (and_left (not (some (alike (numbers v m g)) xs)) (distinct alike xs) d)) p in
      rw (e, o) (meant-in (and_right (not (some (alike (numbers v m g)) xs)) (distinct alike xs) d) p ns e)
  meant-in d (there {x = bits v g} {xs = xs} p) ns e = meant-in (and_right (not (some (alike (bits v g)) xs)) (distinct alike xs) d) p ns e

  in_kept : {xs : List Form} → Kept xs → In w n f xs → Row w n
  in_kept q here = q.0
  in_kept q (there {x = numbers v m g} p) = in_kept q.1 p
  in_kept q (there {x = bits v g} p) = in_kept q.1 p

  -- the line of a row, with as many numbers as it has, is read as the row's command of these numbers
  pub row-parses : In w n f table → (ns : List ℕ) → length ns ≡ n → Short ns → parse (line w ns) ≡ f (λ k. get_or ns (k - 1) 0)
  row-parses p ns e s = let r = in_kept kept p in line-meant w ns r.letters r.other s ∙ meant-in apart p ns e

-- ---- the line of a change
-- a word and numbers for which the table has a command are those of a row
meant-row : (w ns : List ℕ) (xs : List Form) → Kept xs → (meant xs w ns ≡ Broken → ⊥) → Row w (length ns)
unfolding meant
meant-row w ns [] q h = absurd (h refl)
meant-row w ns (numbers v n f ∷ xs) q h = go (same v w) refl (eqb (length ns) n) refl h (meant-row w ns xs q.1)
  where
    go : (t : Bool) → same v w ≡ t → (u : Bool) → eqb (length ns) n ≡ u → (pick (t && u) (f (λ k. get_or ns (k - 1) 0)) (meant xs w ns) ≡ Broken → ⊥)
        → ((meant xs w ns ≡ Broken → ⊥) → Row w (length ns)) → Row w (length ns)
    go true e true d h ih = rw (← (same-is v w e), eqb-true (length ns) n d) q.0
    go true e false d h ih = ih h
    go false e u d h ih = ih h
meant-row w ns (bits v f ∷ xs) q h = meant-row w ns xs q.1 h

pub change-row : (f : SaveForm) (c : change.Change) → Row (line_of f c).word (length (line_of f c).values)
change-row f c = let l = line_of f c in meant-row l.word l.values table kept (λ e. absurd (let z : ◌≡◌ {A = ℕ} 0 1 = cc l.means in omega arith))

-- it is read as the change that it tells
pub written-parses : (f : SaveForm) (c : change.Change) → Short (line_of f c).values → parse (written f c) ≡ Change (told f c)
written-parses f c s =
    let l = line_of f c in
    let r = change-row f c in
    line-meant l.word l.values r.letters r.other s ∙ l.means

-- ---- the field of bits
bit-plain : (t : Bool) → eqb (nought + pick t 1 0) comma ≡ false
bit-plain true = refl
bit-plain false = refl

bits-plain : (s : LoadSet) (n k : ℕ) → Without comma (bits_in s k n)
unfolding bits_in
bits-plain s zero k = none
bits-plain s (suc n) k = byte (bit-plain (has_load s k)) (bits-plain s n (suc k))

is-bit : (t : Bool) → is_bit (nought + pick t 1 0) ≡ true
is-bit true = refl
is-bit false = refl

bits_each : (s : LoadSet) (n k : ℕ) → every is_bit (bits_in s k n) ≡ true
unfolding bits_in every
bits_each s zero k = refl
bits_each s (suc n) k = rw (is-bit (has_load s k)) (bits_each s n (suc k))

bits-count : (s : LoadSet) (n k : ℕ) → length (bits_in s k n) ≡ n
unfolding bits_in
bits-count s zero k = refl
bits-count s (suc n) k = ap suc (bits-count s n (suc k))

bits-form : (s : LoadSet) (n : ℕ) → 0 < n → is_bits (bits_in s 1 n) ≡ true
unfolding is_bits
bits-form s n h = rw (bits_each s n 1, le-leb 1 (length (bits_in s 1 n)) (omega (arith, bits-count s n 1)))

-- the line of a check is read as that check
pub check-parses : (s : LoadSet) (n : ℕ) → 0 < n → s ≡ loads_of (bits_in s 1 n) → parse (written_check s n) ≡ Check s n
unfolding parse parted find_form same every
check-parses s n h e =
    rw (fields-first (bits_in s 1 n) (word check refl), fields-last (bits-plain s n 1)) (rw (bits-form s n h, ← e, bits-count s n 1))
