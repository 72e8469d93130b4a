-- What the definitions give on small inputs, by computation. Assumes nothing.
use Prim.Native.Nat.{ℕ, ◌+◌}
use mathlib.Core.Path.{◌≡◌, refl}
use mathlib.Core.Bool.{true, false}
use mathlib.Core.List.{[], ◌∷◌}
use lib.Dec.{eqb}
use Rattle.lists.specs.Tests.{some, every, distinct}
use Rattle.lists.specs.Arrays.{laid}
use Rattle.lists.specs.Places.{rest_free, limited}
use Rattle.lists.specs.Argmax.{argmax}

-- of equals the first counts
first-of-equals : (argmax (λ i. 5) 3).index ≡ 0
unfolding argmax
first-of-equals = refl

-- the last number looked at counts too
last-counts : (argmax (λ i. i + 1) 3).index ≡ 2
unfolding argmax
last-counts = refl

laid_out : laid {A = ℕ} 0 4 (7 ∷ 8 ∷ []) ≡ 7 ∷ 8 ∷ 0 ∷ 0 ∷ []
unfolding laid
laid_out = refl

-- an element at an unused place is seen, also at the last
rubbish-seen : rest_free (λ x. eqb x 0) 4 2 (7 ∷ 8 ∷ 0 ∷ 9 ∷ []) ≡ false
unfolding every
rubbish-seen = refl

-- an element that is there twice is seen, also with others between
twice-seen : limited (λ x. true) eqb 4 (7 ∷ 8 ∷ 7 ∷ []) ≡ false
unfolding limited every distinct some
twice-seen = refl
