-- The order of the steps, and the steps of one load. Assumes nothing.
use Prim.Native.Nat.{ℕ, zero, suc, ◌≤◌, ◌<◌}
use mathlib.Core.Path.{◌≡◌, refl, sym, ap, ap₂, ◌∙◌}
use mathlib.Core.Bool.{Bool, true, false, ◌&&◌, ◌||◌, not}
use mathlib.Core.List.{List, [], ◌∷◌, ◌++◌, append-nil}
use mathlib.Core.Logic.{◌⊎◌, inl, inr, ⊎_elim}
use native.Mathlib.Omega.{arith}
use borrow.Author.Tests.{eqb-true, eqb-false, le-leb, lt-leb}
use lib.Dec.{eqb, leb}
use Rattle.lists.specs.Tests.{pick}
use Rattle.lists.specs.Argmax.{guard}
use Rattle.lists.specs.Each.{Each, none, more}
use Rattle.lists.proofs.Each.{each_append, each-imply}
use Rattle.lists.proofs.Bools.{and-false, below_or}
use Rattle.tables.specs.Limits.{between}
use Rattle.changeover.specs.declared.order.Step.{Step}
use Rattle.changeover.specs.Sets.{mark_by}
use Rattle.changeover.specs.Steps.{step_to, step_if, goes_off, goes_on, off_steps, on_steps, steps}
use Rattle.changeover.specs.Claims.{Before, Sequenced, steps_for}

-- ---- in order
order-append : (xs ys : List Step) → Sequenced xs → Sequenced ys → Each (λ x. Each (Before x) ys) xs → Sequenced (xs ++ ys)
order-append [] ys a b e = b
order-append (x ∷ xs) ys a b (more h e) = (each_append a.0 h, order-append xs ys a.1 b e)

each-if : {P : Step → Type 0} (b : Bool) (s : Step) → P s → Each P (step_if b s)
each-if true s p = more p none
each-if false s p = none

order-if : (b : Bool) (s : Step) → Sequenced (step_if b s)
order-if true s = (none, tt)
order-if false s = tt

module _ (old new : ℕ → Bool) where
  abbrev Off : ℕ → Step → Type 0
  Off k s = (s.mark ≡ 0) × (s.load ≤ k)

  abbrev On : ℕ → Step → Type 0
  On k s = (s.mark ≡ 1) × (s.load ≤ k)

  all-off : (k : ℕ) → Each (Off k) (off_steps old new k)
  unfolding off_steps
  all-off zero = none
  all-off (suc k) = each_append (each-if (goes_off old new (suc k)) (step_to (suc k) 0) (refl, omega arith)) (each-imply (λ s h. (h.0, omega (arith, h.1))) (all-off k))

  all-on : (k : ℕ) → Each (On k) (on_steps old new k)
  unfolding on_steps
  all-on zero = none
  all-on (suc k) = each_append (each-imply (λ s h. (h.0, omega (arith, h.1))) (all-on k)) (each-if (goes_on old new (suc k)) (step_to (suc k) 1) (refl, omega arith))

  pub off-marks : (k : ℕ) → Each (λ s. s.mark ≡ 0) (off_steps old new k)
  off-marks k = each-imply (λ s h. h.0) (all-off k)

  pub on-marks : (k : ℕ) → Each (λ s. s.mark ≡ 1) (on_steps old new k)
  on-marks k = each-imply (λ s h. h.0) (all-on k)

  off-order : (k : ℕ) → Sequenced (off_steps old new k)
  unfolding off_steps
  off-order zero = tt
  off-order (suc k) =
      order-append (step_if (goes_off old new (suc k)) (step_to (suc k) 0)) (off_steps old new k) (order-if (goes_off old new (suc k)) (step_to (suc k) 0)) (off-order k)
      (each-if (goes_off old new (suc k)) (step_to (suc k) 0) (each-imply (λ s h. inr (inl (refl, h.0, omega (arith, h.1)))) (all-off k)))

  on-order : (k : ℕ) → Sequenced (on_steps old new k)
  unfolding on_steps
  on-order zero = tt
  on-order (suc k) =
      order-append (on_steps old new k) (step_if (goes_on old new (suc k)) (step_to (suc k) 1)) (on-order k) (order-if (goes_on old new (suc k)) (step_to (suc k) 1))
      (each-imply (λ s h. each-if (goes_on old new (suc k)) (step_to (suc k) 1) (inr (inr (h.0, refl, omega (arith, h.1))))) (all-on k))

  pub steps-order : (n : ℕ) → Sequenced (steps old new n)
  steps-order n =
      order-append (off_steps old new n) (on_steps old new n) (off-order n) (on-order n) (each-imply (λ s h. each-imply (λ u g. inl (h.0, g.0)) (all-on n)) (all-off n))

-- ---- the steps of load k
for-append : (k : ℕ) (xs ys : List Step) → steps_for k (xs ++ ys) ≡ steps_for k xs ++ steps_for k ys
for-append k [] ys = refl
for-append k (x ∷ xs) ys = go (eqb x.load k) (for-append k xs ys)
  where
    go : (b : Bool) → steps_for k (xs ++ ys) ≡ steps_for k xs ++ steps_for k ys → pick b (x ∷ steps_for k (xs ++ ys)) (steps_for k (xs ++ ys)) ≡ pick b (x ∷ steps_for k xs) (steps_for k xs) ++ steps_for k ys
    go true e = ap (λ l. x ∷ l) e
    go false e = e

for-if : (k : ℕ) (b : Bool) (s : Step) → steps_for k (step_if b s) ≡ step_if (eqb s.load k && b) s
for-if k true s = go (eqb s.load k)
  where
    go : (c : Bool) → pick c (s ∷ []) [] ≡ step_if (c && true) s
    go true = refl
    go false = refl
for-if k false s = rw (and-false (eqb s.load k)) refl

-- of suc n loads, load k is the last or one of the n before it
module _ (f : ℕ → Bool) (k m n : ℕ) where
  abbrev before : List Step
  before = step_if (between 1 n k && f k) (step_to k m)

  abbrev at_last : List Step
  at_last = step_if (eqb (suc n) k && f (suc n)) (step_to (suc n) m)

  abbrev all : List Step
  all = step_if (between 1 (suc n) k && f k) (step_to k m)

  either : ((before ≡ []) × (at_last ≡ all)) ⊎ ((at_last ≡ []) × (before ≡ all))
  either = go (eqb (suc n) k) refl
    where
      none_before : k ≡ suc n → before ≡ []
      none_before e = rw (lt-leb k n (omega (arith, e)), and-false (leb 1 k)) refl

      last-all : k ≡ suc n → step_if (f (suc n)) (step_to (suc n) m) ≡ all
      last-all e = rw (e, le-leb 1 (suc n) (omega arith), le-leb (suc n) (suc n) (omega arith)) refl

      same : (suc n ≡ k → ⊥) → leb k n ≡ leb k (suc n)
      same d = other (below_or n k)
        where
          other : (n < k) ⊎ (k ≤ n) → leb k n ≡ leb k (suc n)
          other (inl l) = rw (lt-leb k n l, lt-leb k (suc n) (beyond (below_or (suc n) k))) refl
            where
              beyond : (suc n < k) ⊎ (k ≤ suc n) → suc n < k
              beyond (inl g) = g
              beyond (inr g) = absurd (d (omega (arith, l, g)))
          other (inr l) = rw (le-leb k n l, le-leb k (suc n) (omega (arith, l))) refl

      go : (b : Bool) → eqb (suc n) k ≡ b → ((before ≡ []) × (step_if (b && f (suc n)) (step_to (suc n) m) ≡ all)) ⊎ ((step_if (b && f (suc n)) (step_to (suc n) m) ≡ []) × (before ≡ all))
      go true e = let is = sym (eqb-true (suc n) k e) in inl (none_before is, last-all is)
      go false e = inr (refl, rw (same (eqb-false (suc n) k e)) refl)

-- no load is one of none
none_of : (k m : ℕ) (b : Bool) → [] ≡ step_if (between 1 0 k && b) (step_to k m)
none_of zero m b = refl
none_of (suc k) m b = rw (lt-leb (suc k) 0 (omega arith), and-false (leb 1 (suc k))) refl

module _ (old new : ℕ → Bool) (k : ℕ) where
  off-for : (n : ℕ) → steps_for k (off_steps old new n) ≡ step_if (between 1 n k && goes_off old new k) (step_to k 0)
  unfolding off_steps
  off-for zero = none_of k 0 (goes_off old new k)
  off-for (suc n) =
      for-append k (step_if (goes_off old new (suc n)) (step_to (suc n) 0)) (off_steps old new n) ∙ ap₂ ◌++◌ (for-if k (goes_off old new (suc n)) (step_to (suc n) 0)) (off-for n)
      ∙ ⊎_elim (λ h. ap (λ l. at_last (goes_off old new) k 0 n ++ l) h.0 ∙ append-nil (at_last (goes_off old new) k 0 n) ∙ h.1) (λ h. ap (λ l. l ++ before (goes_off old new) k 0 n) h.0 ∙ h.1) (either (goes_off old new) k 0 n)

  on-for : (n : ℕ) → steps_for k (on_steps old new n) ≡ step_if (between 1 n k && goes_on old new k) (step_to k 1)
  unfolding on_steps
  on-for zero = none_of k 1 (goes_on old new k)
  on-for (suc n) =
      for-append k (on_steps old new n) (step_if (goes_on old new (suc n)) (step_to (suc n) 1)) ∙ ap₂ ◌++◌ (on-for n) (for-if k (goes_on old new (suc n)) (step_to (suc n) 1))
      ∙ ⊎_elim (λ h. ap (λ l. l ++ at_last (goes_on old new) k 1 n) h.0 ∙ h.1) (λ h. ap (λ l. before (goes_on old new) k 1 n ++ l) h.0 ∙ append-nil (before (goes_on old new) k 1 n) ∙ h.1) (either (goes_on old new) k 1 n)

  pub steps-for : (n : ℕ) → steps_for k (steps old new n) ≡ step_if (between 1 n k && (goes_off old new k || goes_on old new k)) (step_to k (mark_by new k))
  steps-for n = for-append k (off_steps old new n) (on_steps old new n) ∙ ap₂ ◌++◌ (off-for n) (on-for n) ∙ go (between 1 n k) (old k) (new k)
    where
      go : (b o w : Bool) → step_if (b && (o && not w)) (step_to k 0) ++ step_if (b && (not o && w)) (step_to k 1) ≡ step_if (b && ((o && not w) || (not o && w))) (step_to k (guard w 1))
      go false o w = refl
      go true true true = refl
      go true true false = refl
      go true false true = refl
      go true false false = refl
