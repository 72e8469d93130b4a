-- The greatest value of a function on the numbers below n, and the least number that has it.
-- It stands for "greatest worth", "the lowest .. that still reaches the best" and "the smallest allowance .. that does" of paper 01:
-- every search over states, rules and allowances is this one. Assumes nothing.
use Rattle.std.specs.Prelude.{ℕ, zero, suc, Bool, true, false, cond, ltb}

-- x where the test passes, else 0
abbrev pub guard : Bool → ℕ → ℕ
guard true x = x
guard false x = 0

pub record Greatest : Type 0 where
  pub value : ℕ
  pub index : ℕ

-- one more value, at number i: taken only if it is greater
abbrev pub improve : Greatest → ℕ → ℕ → Greatest
improve p i x = cond (ltb p.value x) (record { value = x; index = i }) p

-- value 0 and index 0 where nothing exceeds 0
unfoldable pub argmax : (ℕ → ℕ) → ℕ → Greatest
argmax f zero = record { value = 0; index = 0 }
argmax f (suc n) = improve (argmax f n) n (f n)
