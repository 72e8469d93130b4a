-- Digits filled with zeros in front: their count, their bytes, and that they are read back. Assumes nothing.
use Prim.Native.Nat.{ℕ, zero, suc, ◌+◌, ◌-◌, ◌/◌, ◌%◌, ◌^◌, ◌<◌}
use mathlib.Core.Path.{◌≡◌, refl, ◌∙◌}
use mathlib.Core.Bool.{true}
use mathlib.Core.List.{List, [], ◌∷◌, ◌++◌}
use native.Mathlib.Nat.{pow-suc}
use native.Mathlib.Omega.{arith}
use lib.ListN.{length, length-append}
use Rattle.lists.specs.Tests.{every}
use Rattle.lists.proofs.Tests.{every-snoc}
use Rattle.lines.specs.Text.{nought}
use Rattle.lines.specs.Grammar.{is_digit, value_from, value}
use Rattle.lines.proofs.Decimal.{value-snoc, digit-byte}
use Rattle.page.specs.Rows.{digits}
use Rattle.page.specs.Claims.{Reads}

pub digits-none : (n : ℕ) → digits 0 n ≡ []
unfolding digits
digits-none n = refl

pub digits_more : (k n : ℕ) → (k ≡ 0 → ⊥) → digits k n ≡ digits (k - 1) (n / 10) ++ ((nought + n % 10) ∷ [])
unfolding digits
digits_more zero n h = absurd (h refl)
digits_more (suc k) n h = let e : suc k - 1 ≡ k = omega arith in rw e

pub digits-length : (k n : ℕ) → length (digits k n) ≡ k
unfolding digits
digits-length zero n = refl
digits-length (suc k) n = omega (arith, length-append (digits k (n / 10)) ((nought + n % 10) ∷ []), digits-length k (n / 10))

-- ---- a number of few enough digits is read back
digits_value : (k n : ℕ) → n < 10 ^ k → value (digits k n) ≡ n
unfolding digits value_from
digits_value zero n h = omega arith
digits_value (suc k) n h = value-snoc 0 (digits k (n / 10)) (nought + n % 10) ∙ rw (digits_value k (n / 10) (omega (arith, pow-suc 10 k))) (omega arith)

pub digits-digits : (k n : ℕ) → every is_digit (digits k n) ≡ true
unfolding digits every
digits-digits zero n = refl
digits-digits (suc k) n = every-snoc is_digit (digits k (n / 10)) (nought + n % 10) (digits-digits k (n / 10)) (digit-byte (n % 10) (omega arith))

pub digits-read : (k n : ℕ) {word : List ℕ} → n < 10 ^ k → word ≡ digits k n → Reads word n
digits-read k n h e = rw e record { digits = digits-digits k n; number = digits_value k n h }
