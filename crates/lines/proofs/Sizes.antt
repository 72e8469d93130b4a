-- How long a line in form is: with numbers it has few bytes, and a check has those of its word, the comma and its bits. Assumes nothing.
use Prim.Native.Nat.{ℕ, suc, ◌+◌, ◌*◌, ◌≤◌}
use mathlib.Core.Path.{◌≡◌, refl, sym, ap, ◌∙◌}
use mathlib.Core.Bool.{Bool, true, false, ◌&&◌}
use mathlib.Core.List.{List, [], ◌∷◌}
use mathlib.Core.Logic.{◌⊎◌, inl, inr}
use native.Mathlib.Nat.{mul-suc}
use native.Mathlib.Omega.{arith}
use borrow.Author.Tests.{leb-true, eqb-true, le-ltb}
use lib.Dec.{eqb, leb}
use lib.ListN.{length, get_or}
use Rattle.lists.specs.Tests.{pick, every}
use Rattle.lists.proofs.Bools.{and_left, and_right}
use Rattle.marks.specs.declared.LoadSet.{LoadSet}
use Rattle.marks.specs.Sets.{set_width}
use Rattle.lines.specs.declared.Command.{Command}
use Rattle.lines.specs.declared.Command.TheVariants.{Change, Plan, Check, Save, Last, Need, Broken, TooLong}
use Rattle.lines.specs.Text.{comma, same}
use Rattle.lines.specs.Length.{most_bytes, too_long}
use Rattle.lines.specs.Grammar.{on_first, fields, most_digits, is_digit, is_number, is_bits, loads_of, Form, numbers, bits, table, find_form, command, parse}
use Rattle.lines.specs.Reading.{most_numbers}
use Rattle.lines.proofs.Fields.{Cons, cons, fields-cons}
use Rattle.lines.proofs.Same.{same-is}
use Rattle.lines.proofs.Rows.{check, most_letters, Kept, kept}

-- ---- the bytes of a line are those of its fields, with a comma between them
total : List (List ℕ) → ℕ
total [] = 0
total (f ∷ fs) = suc (length f) + total fs

fields-total : (s : List ℕ) → total (fields s) ≡ suc (length s)
unfolding fields total
fields-total [] = refl
fields-total (b ∷ bs) = go (eqb b comma) (fields bs) (fields-cons bs) (fields-total bs)
  where
    go : (t : Bool) (fs : List (List ℕ)) → Cons fs → total fs ≡ suc (length bs) → total (pick t ([] ∷ fs) (on_first b fs)) ≡ suc (suc (length bs))
    go true fs c e = omega (arith, e)
    go false fs (cons f gs) e = omega (arith, e)

pub number-few : (f : List ℕ) → is_number f ≡ true → length f ≤ most_digits
unfolding is_number
number-few f h =
    let a : Bool = leb 1 (length f) in
    let b : Bool = leb (length f) most_digits in
    leb-true (length f) most_digits (and_right a b (and_left (a && b) (every is_digit f) h))

numbers-total : (fs : List (List ℕ)) → every is_number fs ≡ true → total fs ≤ suc most_digits * length fs
unfolding total every
numbers-total [] h = omega arith
numbers-total (f ∷ fs) h =
    omega (
      arith,
      mul-suc (suc most_digits) (length fs),
      number-few f (and_left (is_number f) (every is_number fs) h),
      numbers-total fs (and_right (is_number f) (every is_number fs) h),
    )

-- ---- with numbers: the letters of the word, and the digits of each number with the comma before it
abbrev few_bytes : ℕ
few_bytes = most_letters + suc most_digits * most_numbers

module _ (w : List ℕ) (o : same check w ≡ false) (fs : List (List ℕ)) where
  numbers-few : (xs : List Form) → Kept xs → (find_form xs w fs ≡ Broken) ⊎ (length w + total fs ≤ few_bytes)
  unfolding find_form
  numbers-few [] q = inl refl
  numbers-few (numbers v n f ∷ xs) q = go (same v w) refl (eqb (length fs) n) refl (every is_number fs) refl (numbers-few xs q.1)
    where
      go : (a : Bool) → same v w ≡ a → (b : Bool) → eqb (length fs) n ≡ b → (c : Bool) → every is_number fs ≡ c
          → (find_form xs w fs ≡ Broken) ⊎ (length w + total fs ≤ few_bytes) → (find_form (numbers v n f ∷ xs) w fs ≡ Broken) ⊎ (length w + total fs ≤ few_bytes)
      go true p true r true t ih =
          inr (omega (arith, ap length (same-is v w p), q.0.few, q.0.count, eqb-true (length fs) n r, numbers-total fs t))
      go true p true r false t ih = rw (p, r, t) ih
      go true p false r c t ih = rw (p, r) ih
      go false p b r c t ih = rw p ih
  numbers-few (bits v f ∷ xs) q = rw (q.0, o) (numbers-few xs q.1)

-- ---- a check: one field of bits
checked-size : (fs : List (List ℕ)) (t : Bool) → eqb (length fs) 1 && every is_bits fs ≡ t
    → let c = pick {A = Command} t (Check (loads_of (get_or fs 0 [])) (length (get_or fs 0 []))) Broken in
    (c ≡ Broken) ⊎ ((σ : LoadSet) × (n : ℕ) × (c ≡ Check σ n) × (total fs ≡ suc n))
unfolding total
checked-size (f ∷ []) true e = inr (loads_of f, length f, refl, omega arith)
checked-size [] true e = absurd (let z : ◌≡◌ {A = ℕ} 0 1 = cc in omega arith)
checked-size (f ∷ g ∷ fs) true e = absurd (omega (arith, eqb-true (suc (suc (length fs))) 1 (and_left (eqb (suc (suc (length fs))) 1) (every is_bits (f ∷ g ∷ fs)) e)))
checked-size fs false e = inl refl

find-check : (fs : List (List ℕ)) → find_form table check fs ≡ pick (eqb (length fs) 1 && every is_bits fs) (Check (loads_of (get_or fs 0 [])) (length (get_or fs 0 []))) Broken
unfolding find_form same
find-check fs = refl

-- ---- every line: it breaks its form, or has few bytes, or is a check of so many bits
abbrev Formed : (size : ℕ) → Command → Type 0
Formed m c = (c ≡ Broken) ⊎ ((m ≤ few_bytes) ⊎ ((σ : LoadSet) × (n : ℕ) × (c ≡ Check σ n) × (m ≡ length check + suc n)))

with-word : (m : ℕ) (w : List ℕ) (fs : List (List ℕ)) → suc (length w) + total fs ≡ suc m → Formed m (find_form table w fs)
with-word m w fs e = go (same check w) refl
  where
    other : (find_form table w fs ≡ Broken) ⊎ (length w + total fs ≤ few_bytes) → Formed m (find_form table w fs)
    other (inl b) = inl b
    other (inr l) = inr (inl (omega (arith, l, e)))

    bits_of : w ≡ check → (c : Command) → find_form table w fs ≡ c → (c ≡ Broken) ⊎ ((σ : LoadSet) × (n : ℕ) × (c ≡ Check σ n) × (total fs ≡ suc n)) → Formed m (find_form table w fs)
    bits_of is c f (inl b) = inl (f ∙ b)
    bits_of is c f (inr (σ, n, k, t)) = inr (inr (σ, n, f ∙ k, omega (arith, e, t, ap length is)))

    go : (b : Bool) → same check w ≡ b → Formed m (find_form table w fs)
    go false q = other (numbers-few w q fs table kept)
    go true q =
        let is : w ≡ check = sym (same-is check w q) in
        bits_of is _ (ap (λ (v : List ℕ). find_form table v fs) is ∙ find-check fs) (checked-size fs (eqb (length fs) 1 && every is_bits fs) refl)

total_first : (w : List ℕ) (fs : List (List ℕ)) → total (w ∷ fs) ≡ suc (length w) + total fs
unfolding total
total_first w fs = refl

in-form : (s : List ℕ) → Formed (length s) (parse s)
unfolding parse
in-form s = go (fields s) (fields-cons s) (fields-total s)
  where
    go : (ls : List (List ℕ)) → Cons ls → total ls ≡ suc (length s) → Formed (length s) (command ls)
    go ls (cons w fs) e = with-word (length s) w fs (sym (total_first w fs) ∙ e)

short : (s : List ℕ) → length s ≤ most_bytes → too_long s ≡ false
short s h = le-ltb most_bytes (length s) h

module _ (s : List ℕ) (c : Command) (p : parse s ≡ c) where
  form-short : (c ≡ Broken → ⊥) → ((σ : LoadSet) (n : ℕ) → c ≡ Check σ n → length check + suc n ≤ most_bytes) → too_long s ≡ false
  form-short d few = go (in-form s)
    where
      go : Formed (length s) (parse s) → too_long s ≡ false
      go (inl b) = absurd (d (sym p ∙ b))
      go (inr (inl l)) = short s (omega (arith, l))
      go (inr (inr (σ, n, k, e))) = short s (omega (arith, e, few σ n (sym p ∙ k)))

-- a line with numbers that is in form, whatever it asks for, is not too long, and neither is a check of so many bits as loads have room for
abbrev with_numbers : Command → Bool
with_numbers (Change x) = true
with_numbers Plan = true
with_numbers (Check σ n) = false
with_numbers (Save f) = true
with_numbers Last = true
with_numbers (Need v) = true
with_numbers Broken = false
with_numbers TooLong = false

pub numbers-short : (s : List ℕ) (c : Command) → parse s ≡ c → with_numbers c ≡ true → too_long s ≡ false
numbers-short s c p h = form-short s c p (λ e. unlike (ap with_numbers e)) (λ σ n e. unlike (ap with_numbers e))
  where
    unlike : {A : Type 0} → with_numbers c ≡ false → A
    unlike e = absurd (let z : ◌≡◌ {A = ℕ} 0 1 = cc in omega arith)

pub check-short : (s : List ℕ) (σ : LoadSet) (n : ℕ) → parse s ≡ Check σ n → n ≤ set_width → too_long s ≡ false
check-short s σ n p h =
    form-short s (Check σ n) p (λ e. absurd (let z : ◌≡◌ {A = ℕ} 0 1 = cc in omega arith)) (λ τ m e. let z : n ≡ m = cc in omega arith)
