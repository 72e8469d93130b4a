-- A test of two words. Assumes nothing.
use Prim.Native.Nat.{ℕ}
use mathlib.Core.Path.{◌≡◌, refl, ap, ap₂}
use mathlib.Core.Bool.{Bool, true, false, ◌&&◌}
use mathlib.Core.List.{List, [], ◌∷◌}
use native.Mathlib.Omega.{arith}
use borrow.Author.Tests.{eqb-true, eq-eqb}
use lib.Dec.{eqb}
use Rattle.std.specs.Str.{bytes_eq}
use Rattle.lists.proofs.Bools.{and_left, and_right}
use Rattle.lines.specs.Text.{same}

pub same-is : (a b : List ℕ) → same a b ≡ true → a ≡ b
unfolding same
same-is [] [] h = refl
same-is [] (y ∷ b) h = absurd (let z : ◌≡◌ {A = ℕ} 0 1 = cc in omega arith)
same-is (x ∷ a) [] h = absurd (let z : ◌≡◌ {A = ℕ} 0 1 = cc in omega arith)
same-is (x ∷ a) (y ∷ b) h = ap₂ ◌∷◌ (eqb-true x y (and_left (eqb x y) (same a b) h)) (same-is a b (and_right (eqb x y) (same a b) h))

pub same_refl : (w : List ℕ) → same w w ≡ true
unfolding same
same_refl [] = refl
same_refl (b ∷ bs) = rw (eq-eqb b b refl, same_refl bs)

pub not_same : (a b : List ℕ) → (a ≡ b → ⊥) → same a b ≡ false
not_same a b h = go (same a b) refl
  where
    go : (t : Bool) → same a b ≡ t → t ≡ false
    go true e = absurd (h (same-is a b e))
    go false e = refl

-- as the code tests them
pub same_bytes : (v w : List ℕ) → bytes_eq v w ≡ same v w
unfolding same
same_bytes [] [] = refl
same_bytes [] (b ∷ w) = refl
same_bytes (a ∷ v) [] = refl
same_bytes (a ∷ v) (b ∷ w) = ap (λ (t : Bool). eqb a b && t) (same_bytes v w)
