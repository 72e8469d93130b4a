-- A list at the front of an array, for any element type and any size of array.
-- It stands for paper 01's tables in a planner, whose "unused places hold 0". Assumes nothing.
use Rattle.std.specs.Prelude.{ℕ, zero, suc, List, [], ◌∷◌, take, drop}

-- the list at the front of an array of n places, the others holding d
unfoldable pub laid : {A : Type 0} → A → ℕ → List A → List A
laid d zero xs = []
laid d (suc n) [] = d ∷ laid d n []
laid d (suc n) (x ∷ xs) = x ∷ laid d n xs

-- of the first n elements, those from place i on
unfoldable pub rest : {A : Type 0} → List A → ℕ → ℕ → List A
rest xs n i = drop i (take n xs)
