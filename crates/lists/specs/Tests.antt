-- Tests of lists and of the numbers below a limit, for any element type.
-- They stand for the words "each", "some", "no .. twice" of paper 01, and "the least" of paper 02. Assumes nothing.
use Rattle.std.specs.Prelude.{ℕ, zero, suc, Bool, true, false, ◌&&◌, ◌||◌, not, List, [], ◌∷◌}

-- a where the test passes, else b
abbrev pub pick : {A : Type 0} → Bool → A → A → A
pick true a b = a
pick false a b = b

-- does some element pass the test?
unfoldable pub some : {A : Type 0} → (A → Bool) → List A → Bool
some p [] = false
some p (x ∷ xs) = p x || some p xs

-- does every element pass the test?
unfoldable pub every : {A : Type 0} → (A → Bool) → List A → Bool
every p [] = true
every p (x ∷ xs) = p x && every p xs

-- does every element pass the test of its number, the elements being numbered from k on?
unfoldable pub every_from : {A : Type 0} → (ℕ → A → Bool) → ℕ → List A → Bool
every_from p k [] = true
every_from p k (x ∷ xs) = p k x && every_from p (suc k) xs

-- is no element there twice, by a test r of two?
unfoldable pub distinct : {A : Type 0} → (A → A → Bool) → List A → Bool
distinct r [] = true
distinct r (x ∷ xs) = not (some (r x) xs) && distinct r xs

-- the first of the n numbers from k on that passes the test; the one after them where none does
unfoldable pub first_from : (ℕ → Bool) → (k n : ℕ) → ℕ
first_from p k zero = k
first_from p k (suc n) = pick (p k) k (first_from p (suc k) n)

-- does every number below n pass the test?
unfoldable pub all_below : (ℕ → Bool) → ℕ → Bool
all_below p zero = true
all_below p (suc n) = all_below p n && p n
