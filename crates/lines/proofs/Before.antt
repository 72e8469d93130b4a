-- A loop that looks for the first that passes a test, or for the first byte x: what is known of its place at each turn. Assumes nothing.
use Prim.Native.Nat.{ℕ, zero, suc, ◌+◌, ◌≤◌, ◌<◌}
use mathlib.Core.Path.{◌≡◌, refl, sym, ap, ◌∙◌}
use mathlib.Core.Bool.{Bool, true, false, not, cond}
use mathlib.Core.List.{List, [], ◌∷◌}
use native.Mathlib.Nat.{le_of_suc-le-suc}
use native.Mathlib.Omega.{arith}
use borrow.Author.Tests.{eq-eqb, ne_eqb, ltb-true, ltb-false}
use lib.Dec.{eqb, ltb}
use lib.ListN.{length, get_or}
use Rattle.std.proofs.Common.{Option, Some, None, unwrap_or}
use Rattle.std.specs.List.{position_or_len}
use Rattle.lists.specs.Tests.{pick}
use Rattle.lines.specs.Text.{first_at, before}

module _ (p : ℕ → Bool) where
  first-most : (s : List ℕ) → first_at p s ≤ length s
  unfolding first_at
  first-most [] = omega arith
  first-most (b ∷ bs) = go (p b) (first-most bs)
    where
      go : (t : Bool) → first_at p bs ≤ length bs → pick t 0 (suc (first_at p bs)) ≤ suc (length bs)
      go true h = omega arith
      go false h = omega arith

  -- none below i passes, and that at i does
  pub first-here : (s : List ℕ) (i : ℕ) → i ≤ first_at p s → i < length s → p (get_or s i 0) ≡ true → first_at p s ≡ i
  unfolding first_at
  first-here [] i l h e = absurd (omega arith)
  first-here (b ∷ bs) zero l h e = rw e
  first-here (b ∷ bs) (suc i) l h e = go (p b) l (λ k. first-here bs i k (le_of_suc-le-suc h) e)
    where
      go : (t : Bool) → suc i ≤ pick t 0 (suc (first_at p bs)) → (i ≤ first_at p bs → first_at p bs ≡ i) → pick t 0 (suc (first_at p bs)) ≡ suc i
      go true k ih = absurd (omega arith)
      go false k ih = ap suc (ih (le_of_suc-le-suc k))

  -- none below i passes, nor does that at i
  pub first_more : (s : List ℕ) (i : ℕ) → i ≤ first_at p s → i < length s → p (get_or s i 0) ≡ false → i + 1 ≤ first_at p s
  unfolding first_at
  first_more [] i l h e = absurd (omega arith)
  first_more (b ∷ bs) zero l h e = rw e (omega arith)
  first_more (b ∷ bs) (suc i) l h e = go (p b) l (λ k. first_more bs i k (le_of_suc-le-suc h) e)
    where
      go : (t : Bool) → suc i ≤ pick t 0 (suc (first_at p bs)) → (i ≤ first_at p bs → i + 1 ≤ first_at p bs) → suc i + 1 ≤ pick t 0 (suc (first_at p bs))
      go true k ih = absurd (omega arith)
      go false k ih = omega (arith, ih (le_of_suc-le-suc k))

  -- none in the whole does
  pub first-end : (s : List ℕ) (i : ℕ) → i ≤ first_at p s → length s ≤ i → first_at p s ≡ i
  first-end s i l h = omega (arith, first-most s)

  -- where `position` finds it
  place-is : (s : List ℕ) → position_or_len p s ≡ first_at p s
  unfolding first_at
  place-is [] = refl
  place-is (b ∷ bs) = rw (place-is bs) (go (p b))
    where
      go : (t : Bool) → cond (not t) (1 + first_at p bs) 0 ≡ pick t 0 (suc (first_at p bs))
      go true = refl
      go false = omega arith

  module _ (s : List ℕ) (r : Option ℕ) (e : r ≡ cond (ltb (position_or_len p s) (length s)) (Some (position_or_len p s)) None) where
    found : r ≡ cond (ltb (first_at p s) (length s)) (Some (first_at p s)) None
    found = rw place-is at e

    pub first-or-length : unwrap_or r (length s) ≡ first_at p s
    first-or-length = rw found (go (ltb (first_at p s) (length s)) refl)
      where
        go : (t : Bool) → ltb (first_at p s) (length s) ≡ t → unwrap_or (cond t (Some (first_at p s)) None) (length s) ≡ first_at p s
        go true h = refl
        go false h = omega (arith, ltb-false (first_at p s) (length s) h, first-most s)

    pub first-some : (i : ℕ) → r ≡ Some i → (i ≡ first_at p s) × (first_at p s < length s)
    first-some i q = go (ltb (first_at p s) (length s)) refl
      where
        go : (t : Bool) → ltb (first_at p s) (length s) ≡ t → (i ≡ first_at p s) × (first_at p s < length s)
        go true h = let k : ◌≡◌ {A = Option ℕ} (Some i) (Some (first_at p s)) = sym q ∙ found ∙ rw h in (cc, ltb-true (first_at p s) (length s) h)
        go false h = let k : ◌≡◌ {A = Option ℕ} (Some i) None = sym q ∙ found ∙ rw h in cc

    pub first-none : r ≡ None → first_at p s ≡ length s
    first-none q = go (ltb (first_at p s) (length s)) refl
      where
        go : (t : Bool) → ltb (first_at p s) (length s) ≡ t → first_at p s ≡ length s
        go true h = let k : ◌≡◌ {A = Option ℕ} (Some (first_at p s)) None = sym (found ∙ rw h) ∙ q in cc
        go false h = omega (arith, ltb-false (first_at p s) (length s) h, first-most s)

module _ (x : ℕ) (s : List ℕ) where
  pub before-most : before x s ≤ length s
  unfolding before
  before-most = first-most (λ b. eqb b x) s

  module _ (i : ℕ) (l : i ≤ before x s) where
    pub before_here : i < length s → get_or s i 0 ≡ x → before x s ≡ i
    unfolding before
    before_here h e = first-here (λ b. eqb b x) s i l h (eq-eqb (get_or s i 0) x e)

    pub before_more : i < length s → (get_or s i 0 ≡ x → ⊥) → i + 1 ≤ before x s
    unfolding before
    before_more h e = first_more (λ b. eqb b x) s i l h (ne_eqb (get_or s i 0) x e)

    pub before-end : length s ≤ i → before x s ≡ i
    unfolding before
    before-end h = first-end (λ b. eqb b x) s i l h
