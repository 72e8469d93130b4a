-- Two lists, element by element, for any element type. It stands for "line by line" and "field by field". Assumes nothing.
use Rattle.std.specs.Prelude.{List, [], ◌∷◌}

-- both have as many elements, and each of the one stands so to the one at its place in the other
pub data Pairwise {A : Type 0} (R : A → A → Type 0) : List A → List A → Type 0 where
  none : Pairwise R [] []
  both : {x y : A} {xs ys : List A} → R x y → Pairwise R xs ys → Pairwise R (x ∷ xs) (y ∷ ys)
