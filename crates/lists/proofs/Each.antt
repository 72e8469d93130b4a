-- Every element of a list: of two lists one after the other, of one made for each element of another, and at a place. Assumes nothing.
use Prim.Native.Nat.{ℕ, zero, suc, ◌<◌}
use mathlib.Core.List.{List, [], ◌∷◌, ◌++◌, map}
use native.Mathlib.Omega.{arith}
use lib.ListN.{length, get_or}
use Rattle.lists.specs.Each.{Each, none, more}

module _ {A : Type 0} {P : A → Type 0} where
  pub each_append : {xs ys : List A} → Each P xs → Each P ys → Each P (xs ++ ys)
  each_append none q = q
  each_append (more h p) q = more h (each_append p q)

  pub each_map : {B : Type 0} (f : B → A) (d : B) (ys : List B) → ((j : ℕ) → j < length ys → P (f (get_or ys j d))) → Each P (map f ys)
  each_map f d [] h = none
  each_map f d (y ∷ ys) h = more (h 0 (omega arith)) (each_map f d ys (λ j l. h (suc j) (omega arith)))

  -- at a place
  pub each_all : (d : A) (xs : List A) → ((i : ℕ) → i < length xs → P (get_or xs i d)) → Each P xs
  each_all d [] h = none
  each_all d (x ∷ xs) h = more (h 0 (omega arith)) (each_all d xs (λ i l. h (suc i) (omega arith)))

  pub each_at : (d : A) {xs : List A} → Each P xs → (i : ℕ) → i < length xs → P (get_or xs i d)
  each_at d none i h = absurd (omega arith)
  each_at d (more h p) zero l = h
  each_at d (more h p) (suc i) l = each_at d p i (omega arith)

pub each-imply : {A : Type 0} {P Q : A → Type 0} → ((x : A) → P x → Q x) → {xs : List A} → Each P xs → Each Q xs
each-imply f none = none
each-imply f (more {x = x} h p) = more (f x h) (each-imply f p)

-- of two sorts of fact
pub each_both : {A : Type 0} {P Q : A → Type 0} {xs : List A} → Each P xs → Each Q xs → Each (λ x. P x × Q x) xs
each_both none none = none
each_both (more h p) (more k q) = more (h, k) (each_both p q)
