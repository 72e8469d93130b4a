-- A number in decimal: its digits, their count, and that it is read back. Assumes nothing.
use Prim.Native.Nat.{ℕ, zero, suc, ◌+◌, ◌-◌, ◌*◌, ◌/◌, ◌%◌, ◌^◌, ◌≤◌, ◌<◌}
use mathlib.Core.Path.{◌≡◌, refl, sym, ap, subst, ◌∙◌}
use mathlib.Core.Bool.{Bool, true, false}
use mathlib.Core.List.{List, [], ◌∷◌, ◌++◌, append-nil}
use mathlib.Core.Logic.{◌⊎◌, inl, inr}
use native.Mathlib.Nat.{pow-suc}
use native.Mathlib.Omega.{arith}
use borrow.Author.Tests.{lt-ltb, le-ltb, le-leb, leb-true, ltb-false}
use lib.Dec.{ltb, leb, lit≤}
use lib.ListN.{length, length-append}
use lib.Seq.{append_snoc}
use Rattle.lists.specs.Tests.{every}
use Rattle.lists.proofs.Bools.{and_left, and_right, below_or}
use Rattle.lists.proofs.Tests.{every-snoc}
use Rattle.lines.specs.Text.{nought, decimal_to, decimal}
use Rattle.lines.specs.Grammar.{most_digits, is_digit, is_number, value_from, value}

-- ---- the last digit, and the number without it
last-digit : (k n : ℕ) (t : Bool) → ltb n 10 ≡ t
    → decimal_to (suc k) n ≡ elim t as (λ _. List ℕ) [ true ↦ (nought + n) ∷ [] | false ↦ decimal_to k (n / 10) ++ ((nought + n % 10) ∷ []) ]
unfolding decimal_to
last-digit k n t e = subst (λ (u : Bool). decimal_to (suc k) n ≡ elim u as (λ _. List ℕ) [ true ↦ (nought + n) ∷ [] | false ↦ decimal_to k (n / 10) ++ ((nought + n % 10) ∷ []) ]) e refl

enough : (k j n : ℕ) → n < k → n < j → decimal_to k n ≡ decimal_to j n
enough zero j n h l = absurd (omega arith)
enough (suc k) zero n h l = absurd (omega arith)
enough (suc k) (suc j) n h l = go (ltb n 10) refl (λ a b. enough k j (n / 10) a b)
  where
    go : (t : Bool) → ltb n 10 ≡ t → (n / 10 < k → n / 10 < j → decimal_to k (n / 10) ≡ decimal_to j (n / 10)) → decimal_to (suc k) n ≡ decimal_to (suc j) n
    go true e ih = last-digit k n true e ∙ sym (last-digit j n true e)
    go false e ih =
        let s = ltb-false n 10 e in
        last-digit k n false e ∙ rw (ih (omega arith) (omega arith)) (sym (last-digit j n false e))

pub decimal-one : (n : ℕ) → n < 10 → decimal n ≡ (nought + n) ∷ []
unfolding decimal
decimal-one n h = last-digit n n true (lt-ltb n 10 h)

pub decimal-more : (n : ℕ) → 10 ≤ n → decimal n ≡ decimal (n / 10) ++ ((nought + n % 10) ∷ [])
unfolding decimal
decimal-more n h = last-digit n n false (le-ltb n 10 h) ∙ rw (enough n (suc (n / 10)) (n / 10) (omega arith) (omega arith))

pub decimal-room : (n : ℕ) → 10 ≤ n → length (decimal n) ≡ length (decimal (n / 10)) + 1
decimal-room n h = rw (decimal-more n h) (length-append (decimal (n / 10)) ((nought + n % 10) ∷ []))

-- ---- what holds of one digit, and of one digit more, holds of every number
module _ (P : ℕ → List ℕ → Type 0) (one : (n : ℕ) → n < 10 → P n ((nought + n) ∷ []))
    (more : (n : ℕ) → 10 ≤ n → P (n / 10) (decimal (n / 10)) → P n (decimal (n / 10) ++ ((nought + n % 10) ∷ []))) where
  below : (k n : ℕ) → n < k → P n (decimal n)
  below zero n h = absurd (omega arith)
  below (suc k) n h = go (below_or n 10) (λ l. below k (n / 10) l)
    where
      go : (n < 10) ⊎ (10 ≤ n) → (n / 10 < k → P (n / 10) (decimal (n / 10))) → P n (decimal n)
      go (inl s) ih = rw (decimal-one n s) (one n s)
      go (inr s) ih = rw (decimal-more n s) (more n s (ih (omega arith)))

  by_digits : (n : ℕ) → P n (decimal n)
  by_digits n = below (suc n) n (omega arith)

-- ---- the value
pub value-snoc : (v : ℕ) (f : List ℕ) (b : ℕ) → value_from v (f ++ (b ∷ [])) ≡ value_from v f * 10 + (b - nought)
unfolding value_from
value-snoc v [] b = refl
value-snoc v (a ∷ f) b = value-snoc (v * 10 + (a - nought)) f b

pub decimal-value : (n : ℕ) → value (decimal n) ≡ n
unfolding value_from
decimal-value = by_digits (λ n f. value f ≡ n) (λ n h. omega arith) (λ n h ih. value-snoc 0 (decimal (n / 10)) (nought + n % 10) ∙ rw ih (omega arith))

-- ---- the digits
pub digit-byte : (d : ℕ) → d < 10 → is_digit (nought + d) ≡ true
digit-byte d h = rw (le-leb nought (nought + d) (omega arith), le-leb (nought + d) (nought + 9) (omega arith))

pub decimal-digits : (n : ℕ) → every is_digit (decimal n) ≡ true
unfolding every
decimal-digits = by_digits (λ n f. every is_digit f ≡ true) (λ n h. rw (digit-byte n h)) (λ n h ih. every-snoc is_digit (decimal (n / 10)) (nought + n % 10) ih (digit-byte (n % 10) (omega arith)))

-- ---- their count
pub decimal-some : (n : ℕ) → 1 ≤ length (decimal n)
decimal-some = by_digits (λ n f. 1 ≤ length f) (λ n h. omega arith) (λ n h ih. omega (arith, length-append (decimal (n / 10)) ((nought + n % 10) ∷ [])))

pub decimal-length : (k n : ℕ) → 1 ≤ k → n < 10 ^ k → length (decimal n) ≤ k
decimal-length k n p h = by_digits (λ n f. (k : ℕ) → 1 ≤ k → n < 10 ^ k → length f ≤ k) (λ n s k p h. p) step n k p h
  where
    step : (n : ℕ) → 10 ≤ n → ((k : ℕ) → 1 ≤ k → n / 10 < 10 ^ k → length (decimal (n / 10)) ≤ k)
        → (k : ℕ) → 1 ≤ k → n < 10 ^ k → length (decimal (n / 10) ++ ((nought + n % 10) ∷ [])) ≤ k
    step n s ih zero p h = absurd (omega arith)
    step n s ih (suc zero) p h = absurd (omega arith)
    step n s ih (suc (suc k)) p h = omega (arith, length-append (decimal (n / 10)) ((nought + n % 10) ∷ []), ih (suc k) (omega arith) (omega (arith, pow-suc 10 (suc k))))

-- a number of few enough digits is in form
pub decimal-form : (n : ℕ) → n < 10 ^ most_digits → is_number (decimal n) ≡ true
unfolding is_number
decimal-form n h = rw (le-leb 1 (length (decimal n)) (decimal-some n), le-leb (length (decimal n)) most_digits (decimal-length most_digits n (lit≤ tt) h)) (decimal-digits n)

-- ---- a digit, and digits behind a number that is not 0
pub digit-range : (b : ℕ) → is_digit b ≡ true → (nought ≤ b) × (b ≤ nought + 9)
digit-range b h = (leb-true nought b (and_left (leb nought b) (leb b (nought + 9)) h), leb-true b (nought + 9) (and_right (leb nought b) (leb b (nought + 9)) h))

decimal-next : (v : ℕ) → 0 < v → (b : ℕ) → is_digit b ≡ true → decimal (v * 10 + (b - nought)) ≡ decimal v ++ (b ∷ [])
decimal-next v p b h =
    let r = digit-range b h in
    let most : (v * 10 + (b - nought)) / 10 ≡ v = omega (arith, r.0, r.1) in
    let last : nought + (v * 10 + (b - nought)) % 10 ≡ b = omega (arith, r.0, r.1) in
    decimal-more (v * 10 + (b - nought)) (omega arith) ∙ rw (most, last)

pub decimal-on : (v : ℕ) → 0 < v → (f : List ℕ) → every is_digit f ≡ true → decimal (value_from v f) ≡ decimal v ++ f
unfolding value_from every
decimal-on v p [] h = sym (append-nil (decimal v))
decimal-on v p (b ∷ f) h =
    decimal-on (v * 10 + (b - nought)) (omega arith) f (and_right (is_digit b) (every is_digit f) h)
    ∙ ap (λ (x : List ℕ). x ++ f) (decimal-next v p b (and_left (is_digit b) (every is_digit f) h)) ∙ append_snoc (decimal v) b f
