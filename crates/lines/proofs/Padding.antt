-- Lines that differ only in leading zeros, or in a kind 0 written out, ask for the same; and numbers with the same value differ only in such zeros.
-- Assumes nothing.
use Prim.Native.Nat.{ℕ, zero, suc, ◌+◌, ◌-◌, ◌*◌, ◌≤◌}
use mathlib.Core.Path.{◌≡◌, refl, sym, ap, ap₂, ◌∙◌}
use mathlib.Core.Bool.{Bool, true, false, ◌&&◌}
use mathlib.Core.List.{List, [], ◌∷◌, ◌++◌, map}
use mathlib.Core.Logic.{◌⊎◌, inl, inr}
use native.Mathlib.Omega.{arith}
use borrow.Author.Tests.{le-leb, leb-true, le-ltb, eqb-true, eqb-false}
use lib.Dec.{eqb, leb}
use lib.ListN.{length, get_or, drop}
use Rattle.lists.specs.Tests.{pick, every}
use Rattle.lists.specs.Pairs.{Pairwise, none, both}
use Rattle.lists.proofs.Bools.{and_left, and_right}
use Rattle.lines.specs.declared.Command.{Command}
use Rattle.lines.specs.declared.Command.TheVariants.{Change, Broken}
use Rattle.lines.specs.declared.Change.TheVariants.{Rule, Load}
use Rattle.lines.specs.Text.{bytes, nought, same, decimal}
use Rattle.lines.specs.Length.{most_bytes, too_long}
use Rattle.lines.specs.Grammar.{fields, most_digits, is_digit, is_number, value_from, value, Form, numbers, bits, table, find_form, command, parse}
use Rattle.lines.specs.Padding.{unpadded, SameField, equal, padded, first_word, later_fields, OnlyZeros, KindWritten, SameLine, identical, zeros, kind_written, kind_left_out}
use Rattle.lines.proofs.Fields.{Cons, cons, fields-cons}
use Rattle.lines.proofs.Same.{not_same}
use Rattle.lines.proofs.Rows.{check, Kept, kept}
use Rattle.lines.proofs.Sizes.{number-few}
use Rattle.lines.proofs.Decimal.{decimal-one, decimal-value, decimal-digits, decimal-some, digit-range, decimal-on}

-- ---- a field: what one zero in front does not change, none of them changes
module _ {A : Type 0} (p : List ℕ → A) (k : (c : ℕ) (bs : List ℕ) → p (nought ∷ c ∷ bs) ≡ p (c ∷ bs)) where
  unpadded-keeps : (f : List ℕ) → p (unpadded f) ≡ p f
  unfolding unpadded
  unpadded-keeps [] = refl
  unpadded-keeps (b ∷ []) = refl
  unpadded-keeps (b ∷ c ∷ bs) = go (eqb b nought) refl (unpadded-keeps (c ∷ bs))
    where
      go : (t : Bool) → eqb b nought ≡ t → p (unpadded (c ∷ bs)) ≡ p (c ∷ bs) → p (pick t (unpadded (c ∷ bs)) (b ∷ c ∷ bs)) ≡ p (b ∷ c ∷ bs)
      go true e ih = rw (eqb-true b nought e) (ih ∙ sym (k c bs))
      go false e ih = refl

unpadded-value : (f : List ℕ) → value (unpadded f) ≡ value f
unfolding value_from
unpadded-value = unpadded-keeps value (λ c bs. refl)

-- is it one digit or more, and nothing else?
in_form : List ℕ → Bool
in_form f = leb 1 (length f) && true && every is_digit f

unpadded-form : (f : List ℕ) → in_form (unpadded f) ≡ in_form f
unfolding in_form every
unpadded-form = unpadded-keeps in_form (λ c bs. rw (le-leb 1 (suc (suc (length bs))) (omega arith), le-leb 1 (suc (length bs)) (omega arith)))

number-form : (f : List ℕ) → length f ≤ most_digits → is_number f ≡ in_form (unpadded f)
unfolding is_number in_form
number-form f l = rw (le-leb (length f) most_digits l) (sym (unpadded-form f))

module _ {f g : List ℕ} where
  same-form : SameField f g → is_number f ≡ is_number g
  same-form (equal e) = ap is_number e
  same-form (padded l m e) = number-form f l ∙ ap in_form e ∙ sym (number-form g m)

  same-value : SameField f g → value f ≡ value g
  same-value (equal e) = ap value e
  same-value (padded l m e) = sym (unpadded-value f) ∙ ap value e ∙ unpadded-value g

-- ---- fields
all-form : {fs gs : List (List ℕ)} → Pairwise SameField fs gs → every is_number fs ≡ every is_number gs
unfolding every
all-form none = refl
all-form (both h hs) = ap₂ ◌&&◌ (same-form h) (all-form hs)

count_same : {fs gs : List (List ℕ)} → Pairwise SameField fs gs → length fs ≡ length gs
count_same none = refl
count_same (both h hs) = ap suc (count_same hs)

value-at : {fs gs : List (List ℕ)} → Pairwise SameField fs gs → (i : ℕ) → value (get_or fs i []) ≡ value (get_or gs i [])
value-at none i = refl
value-at (both h hs) zero = same-value h
value-at (both h hs) (suc i) = value-at hs i

-- ---- a word with numbers
module _ (w : List ℕ) (o : same check w ≡ false) {fs gs : List (List ℕ)} (h : Pairwise SameField fs gs) where
  same-found : (xs : List Form) → Kept xs → find_form xs w fs ≡ find_form xs w gs
  unfolding find_form
  same-found [] q = refl
  same-found (numbers v n f ∷ xs) q = rw (all-form h, count_same h, same-found xs q.1) (simp (value-at h))
  same-found (bits v f ∷ xs) q = rw (q.0, o) (same-found xs q.1)

-- lines that differ only in such zeros have the same command
pub zeros-parse : (s t : List ℕ) → OnlyZeros s t → parse s ≡ parse t
unfolding parse
zeros-parse s t z = go (fields s) (fields-cons s) (fields t) (fields-cons t) z.word z.numbers z.each
  where
    go : (ls : List (List ℕ)) → Cons ls → (ms : List (List ℕ)) → Cons ms → get_or ls 0 [] ≡ get_or ms 0 [] → (get_or ls 0 [] ≡ check → ⊥) → Pairwise SameField (drop 1 ls) (drop 1 ms)
        → command ls ≡ command ms
    go ls (cons v fs) ms (cons w gs) e o h = same-found v (not_same check v (λ q. o (sym q))) h table kept ∙ ap (λ (x : List ℕ). find_form table x gs) e

-- ---- and so does a line with a kind 0 written out
abbrev if_numbers : (is_numbers : Bool) → Command → Command
if_numbers b c = pick b c Broken

module _ (a b c z : List ℕ) (is : is_number z ≡ true) (zero-kind : value z ≡ 0) where
  abbrev three : Bool
  three = is_number a && (is_number b && (is_number c && true))

  abbrev four : Bool
  four = is_number a && (is_number b && (is_number c && (is_number z && true)))

  same-numbers-all : four ≡ three
  same-numbers-all = ap (λ (x : Bool). is_number a && (is_number b && (is_number c && (x && true)))) is

  rule-written : find_form table (bytes "rule") (a ∷ b ∷ c ∷ []) ≡ find_form table (bytes "rule") (a ∷ b ∷ c ∷ z ∷ [])
  unfolding find_form same every value_from
  rule-written = ap₂ (λ (x : Bool) (k : ℕ). if_numbers x (Change (Rule (value a) (value b) (value c) k))) (sym same-numbers-all) (sym zero-kind)

  load-written : find_form table (bytes "load") (a ∷ b ∷ c ∷ []) ≡ find_form table (bytes "load") (a ∷ b ∷ c ∷ z ∷ [])
  unfolding find_form same every value_from
  load-written = ap₂ (λ (x : Bool) (k : ℕ). if_numbers x (Change (Load (value a) (value b) (value c) k))) (sym same-numbers-all) (sym zero-kind)

-- three fields, and one more
written-found : (w : List ℕ) → (w ≡ bytes "rule") ⊎ (w ≡ bytes "load") → (fs : List (List ℕ)) → length fs ≡ 3 → (z : List ℕ) → is_number z ≡ true → value z ≡ 0
    → find_form table w fs ≡ find_form table w (fs ++ (z ∷ []))
written-found w k [] n z is e = absurd (omega arith)
written-found w k (a ∷ []) n z is e = absurd (omega arith)
written-found w k (a ∷ b ∷ []) n z is e = absurd (omega arith)
written-found w (inl r) (a ∷ b ∷ c ∷ []) n z is e = rw r (rule-written a b c z is e)
written-found w (inr l) (a ∷ b ∷ c ∷ []) n z is e = rw l (load-written a b c z is e)
written-found w k (a ∷ b ∷ c ∷ d ∷ fs) n z is e = absurd (omega arith)

parse-fields : (s : List ℕ) → parse s ≡ find_form table (first_word s) (later_fields s)
unfolding parse
parse-fields s = go (fields s) (fields-cons s)
  where
    go : (ls : List (List ℕ)) → Cons ls → command ls ≡ find_form table (get_or ls 0 []) (drop 1 ls)
    go ls (cons v fs) = refl

kind-parse : (s t : List ℕ) → KindWritten s t → parse s ≡ parse t
kind-parse s t k =
    parse-fields s ∙ written-found (first_word s) k.kinded (later_fields s) k.three k.kind k.number k.nought
    ∙ ap₂ (find_form table) k.word (sym k.last) ∙ sym (parse-fields t)

short-both : (s t : List ℕ) → length s ≤ most_bytes → length t ≤ most_bytes → too_long s ≡ too_long t
short-both s t l m = le-ltb most_bytes (length s) l ∙ sym (le-ltb most_bytes (length t) m)

module _ {s t : List ℕ} where
  -- and so such lines ask for the same, also by their length
  pub same-command : SameLine s t → parse s ≡ parse t
  same-command (identical e) = ap parse e
  same-command (zeros l m z) = zeros-parse s t z
  same-command (kind_written l m k) = kind-parse s t k
  same-command (kind_left_out l m k) = sym (kind-parse t s k)

  pub same-long : SameLine s t → too_long s ≡ too_long t
  same-long (identical e) = ap too_long e
  same-long (zeros l m z) = short-both s t l m
  same-long (kind_written l m k) = short-both s t l m
  same-long (kind_left_out l m k) = short-both s t l m

-- ---- and no others do: numbers with the same value differ only in such zeros
one-digit : (b : ℕ) → is_digit b ≡ true → decimal (0 * 10 + (b - nought)) ≡ b ∷ []
one-digit b d =
    let r = digit-range b d in
    let e : nought + (0 * 10 + (b - nought)) ≡ b = omega (arith, r.0) in
    decimal-one (0 * 10 + (b - nought)) (omega (arith, r.1)) ∙ rw e

-- a number without its leading zeros is written as its value is
unpadded-decimal : (f : List ℕ) → 1 ≤ length f → every is_digit f ≡ true → unpadded f ≡ decimal (value f)
unfolding unpadded every value_from
unpadded-decimal [] l h = absurd (omega arith)
unpadded-decimal (b ∷ []) l h = sym (one-digit b (and_left (is_digit b) true h))
unpadded-decimal (b ∷ c ∷ bs) l h = go (eqb b nought) refl (unpadded-decimal (c ∷ bs) (omega arith) rest)
  where
    first : is_digit b ≡ true
    first = and_left (is_digit b) (every is_digit (c ∷ bs)) h

    rest : every is_digit (c ∷ bs) ≡ true
    rest = and_right (is_digit b) (every is_digit (c ∷ bs)) h

    go : (t : Bool) → eqb b nought ≡ t → unpadded (c ∷ bs) ≡ decimal (value (c ∷ bs)) → pick t (unpadded (c ∷ bs)) (b ∷ c ∷ bs) ≡ decimal (value (b ∷ c ∷ bs))
    go true e ih = rw (eqb-true b nought e) ih
    go false e ih =
        let r = digit-range b first in
        let z : b ≡ nought → ⊥ = eqb-false b nought e in
        sym (decimal-on (0 * 10 + (b - nought)) (omega (arith, r.0)) (c ∷ bs) rest ∙ ap (λ (x : List ℕ). x ++ (c ∷ bs)) (one-digit b first))

-- a number in decimal has none
pub decimal-unpadded : (n : ℕ) → unpadded (decimal n) ≡ decimal n
decimal-unpadded n = unpadded-decimal (decimal n) (decimal-some n) (decimal-digits n) ∙ ap decimal (decimal-value n)

number-decimal : (f : List ℕ) → is_number f ≡ true → unpadded f ≡ decimal (value f)
unfolding is_number
number-decimal f h =
    let a : Bool = leb 1 (length f) in
    let b : Bool = leb (length f) most_digits in
    unpadded-decimal f (leb-true 1 (length f) (and_left a b (and_left (a && b) (every is_digit f) h))) (and_right (a && b) (every is_digit f) h)

same_number : (f g : List ℕ) → is_number f ≡ true → is_number g ≡ true → value f ≡ value g → SameField f g
same_number f g m n e = padded (number-few f m) (number-few g n) (number-decimal f m ∙ ap decimal e ∙ sym (number-decimal g n))

each_number : (fs gs : List (List ℕ)) → every is_number fs ≡ true → every is_number gs ≡ true → map value fs ≡ map value gs → Pairwise SameField fs gs
unfolding every
each_number [] [] m n e = none
each_number [] (g ∷ gs) m n e = absurd (omega (arith, ap length e))
each_number (f ∷ fs) [] m n e = absurd (omega (arith, ap length e))
each_number (f ∷ fs) (g ∷ gs) m n e =
    both
    (same_number f g (and_left (is_number f) (every is_number fs) m) (and_left (is_number g) (every is_number gs) n) (ap (λ (xs : List ℕ). get_or xs 0 0) e))
    (each_number fs gs (and_right (is_number f) (every is_number fs) m) (and_right (is_number g) (every is_number gs) n) (ap (λ (xs : List ℕ). drop 1 xs) e))

-- so lines with the same word and the same numbers differ only in such zeros: `OnlyZeros` leaves none out
pub same_numbers : (s t : List ℕ) → first_word s ≡ first_word t → (first_word s ≡ check → ⊥)
    → every is_number (later_fields s) ≡ true → every is_number (later_fields t) ≡ true → map value (later_fields s) ≡ map value (later_fields t) → OnlyZeros s t
same_numbers s t w o m n e = record { word = w; numbers = o; each = each_number (later_fields s) (later_fields t) m n e }
