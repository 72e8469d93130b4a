-- What is on while loads are switched over. Up to load k it is one of the two sets, the old one while loads go off and the new one while they go on; above k
-- it is what the two sets share. Assumes nothing.
use Prim.Native.Nat.{ℕ, zero, suc, ◌≤◌, ◌<◌}
use mathlib.Core.Path.{◌≡◌, refl, sym, subst, ap, ◌∙◌}
use mathlib.Core.Bool.{Bool, true, false, ◌&&◌, not}
use mathlib.Core.List.{List, [], ◌∷◌, ◌++◌}
use mathlib.Core.Logic.{◌⊎◌, inl, inr}
use native.Mathlib.Omega.{arith}
use borrow.Author.Tests.{le-leb, lt-leb, eqb-true, eqb-false}
use lib.Dec.{eqb, leb}
use Rattle.lists.specs.Tests.{pick}
use Rattle.lists.proofs.Bools.{and-false, below_or}
use Rattle.calls.proofs.Work.{clash}
use Rattle.changeover.specs.declared.order.Step.{Step}
use Rattle.changeover.specs.Steps.{step_to, step_if, goes_off, goes_on, off_steps, on_steps, steps, stepped, stepped_all, AfterEvery}

-- sets that agree on every load are one
pub same_set : {f g : ℕ → Bool} → ((k : ℕ) → f k ≡ g k) → f ≡ g
same_set h = λ i k. h k i

-- ---- steps one after the other
pub all_append : (xs ys : List Step) (on : ℕ → Bool) → stepped_all (xs ++ ys) on ≡ stepped_all ys (stepped_all xs on)
unfolding stepped_all
all_append [] ys on = refl
all_append (x ∷ xs) ys on = all_append xs ys (stepped x on)

pub every_append : (P : (ℕ → Bool) → Type 0) (xs ys : List Step) (on : ℕ → Bool) → AfterEvery P xs on → AfterEvery P ys (stepped_all xs on) → AfterEvery P (xs ++ ys) on
unfolding stepped_all
every_append P [] ys on a b = b
every_append P (x ∷ xs) ys on a b = (a.0, every_append P xs ys (stepped x on) a.1 b)

module _ (old new : ℕ → Bool) where
  abbrev pub phase : (low : ℕ → Bool) → ℕ → ℕ → Bool
  phase low k j = pick (leb j k) (low j) (old j && new j)

  -- ---- one load further
  module _ (low : ℕ → Bool) (k : ℕ) where
    here : phase low (suc k) (suc k) ≡ low (suc k)
    here = rw (le-leb (suc k) (suc k) (omega arith)) refl

    above : phase low k (suc k) ≡ old (suc k) && new (suc k)
    above = rw (lt-leb (suc k) k (omega arith)) refl

    elsewhere : (j : ℕ) → (suc k ≡ j → ⊥) → phase low (suc k) j ≡ phase low k j
    elsewhere j d = go (below_or k j) (below_or (suc k) j)
      where
        go : (k < j) ⊎ (j ≤ k) → (suc k < j) ⊎ (j ≤ suc k) → phase low (suc k) j ≡ phase low k j
        go (inl l) (inl m) = rw (lt-leb j k l, lt-leb j (suc k) m) refl
        go (inl l) (inr m) = absurd (d (omega arith))
        go (inr l) _ = rw (le-leb j k l, le-leb j (suc k) (omega arith)) refl

  -- a step of load k + 1 from a set to one that differs from it there alone
  turned : (k m : ℕ) (f g : ℕ → Bool) → ((j : ℕ) → (suc k ≡ j → ⊥) → f j ≡ g j) → eqb m 1 ≡ g (suc k) → stepped (step_to (suc k) m) f ≡ g
  unfolding stepped
  turned k m f g same at = same_set (λ j. go j (eqb (suc k) j) refl)
    where
      go : (j : ℕ) (b : Bool) → eqb (suc k) j ≡ b → pick b (eqb m 1) (f j) ≡ g j
      go j true e = at ∙ ap g (eqb-true (suc k) j e)
      go j false e = same j (eqb-false (suc k) j e)

  -- no step, where they do not differ there either
  kept : (k : ℕ) (f g : ℕ → Bool) → ((j : ℕ) → (suc k ≡ j → ⊥) → f j ≡ g j) → f (suc k) ≡ g (suc k) → f ≡ g
  kept k f g same at = same_set (λ j. go j (eqb (suc k) j) refl)
    where
      go : (j : ℕ) (b : Bool) → eqb (suc k) j ≡ b → f j ≡ g j
      go j true e = subst (λ i. f i ≡ g i) (eqb-true (suc k) j e) at
      go j false e = same j (eqb-false (suc k) j e)

  -- ---- loads go off
  off-turn : (k : ℕ) → goes_off old new (suc k) ≡ true → stepped (step_to (suc k) 0) (phase old (suc k)) ≡ phase old k
  off-turn k e = turned k 0 (phase old (suc k)) (phase old k) (elsewhere old k) (sym (above old k ∙ gone (old (suc k)) (new (suc k)) e))
    where
      gone : (o w : Bool) → o && not w ≡ true → o && w ≡ false
      gone true true e = sym e
      gone true false e = refl
      gone false w e = refl

  off-stay : (k : ℕ) → goes_off old new (suc k) ≡ false → phase old (suc k) ≡ phase old k
  off-stay k e = kept k (phase old (suc k)) (phase old k) (elsewhere old k) (here old k ∙ stays (old (suc k)) (new (suc k)) e ∙ sym (above old k))
    where
      stays : (o w : Bool) → o && not w ≡ false → o ≡ o && w
      stays true true e = refl
      stays true false e = e
      stays false w e = refl

  -- ---- loads go on
  on-turn : (k : ℕ) → goes_on old new (suc k) ≡ true → stepped (step_to (suc k) 1) (phase new k) ≡ phase new (suc k)
  on-turn k e = turned k 1 (phase new k) (phase new (suc k)) (λ j d. sym (elsewhere new k j d)) (sym (here new k ∙ comes (old (suc k)) (new (suc k)) e))
    where
      comes : (o w : Bool) → not o && w ≡ true → w ≡ true
      comes true w e = absurd (clash (sym e))
      comes false w e = e

  on-stay : (k : ℕ) → goes_on old new (suc k) ≡ false → phase new k ≡ phase new (suc k)
  on-stay k e = kept k (phase new k) (phase new (suc k)) (λ j d. sym (elsewhere new k j d)) (above new k ∙ stays (old (suc k)) (new (suc k)) e ∙ sym (here new k))
    where
      stays : (o w : Bool) → not o && w ≡ false → o && w ≡ w
      stays true w e = refl
      stays false w e = sym e

  -- ---- all of them, where P holds of every phase
  module _ (P : (ℕ → Bool) → Type 0) where
    pub record Passed (ss : List Step) (from to : ℕ → Bool) : Type 0 where
      pub every : AfterEvery P ss from
      pub last : stepped_all ss from ≡ to

    -- a step, or none, and more
    passed_none : {from to : ℕ → Bool} → from ≡ to → Passed [] from to
    unfolding stepped_all
    passed_none e = record { every = tt; last = e }

    passed-one : (s : Step) {from to : ℕ → Bool} → P to → stepped s from ≡ to → Passed (s ∷ []) from to
    unfolding stepped_all
    passed-one s {from} {to} p e = record { every = (subst P (sym e) p, tt); last = e }

    passed-if : (b : Bool) (s : Step) {from to : ℕ → Bool} → P to → (b ≡ true → stepped s from ≡ to) → (b ≡ false → from ≡ to) → Passed (step_if b s) from to
    passed-if true s p t f = passed-one s p (t refl)
    passed-if false s p t f = passed_none (f refl)

    passed_then : (xs ys : List Step) {from via to : ℕ → Bool} → Passed xs from via → Passed ys via to → Passed (xs ++ ys) from to
    passed_then xs ys {from} {via} {to} x y =
        let y' = subst (λ v. Passed ys v to) (sym x.last) y in
        record { every = every_append P xs ys from x.every y'.every; last = all_append xs ys from ∙ y'.last }

    passed-off : ((k : ℕ) → P (phase old k)) → (k : ℕ) → Passed (off_steps old new k) (phase old k) (phase old 0)
    unfolding off_steps
    passed-off p zero = passed_none refl
    passed-off p (suc k) =
        passed_then (step_if (goes_off old new (suc k)) (step_to (suc k) 0)) (off_steps old new k) (passed-if (goes_off old new (suc k)) (step_to (suc k) 0) (p k) (off-turn k) (off-stay k)) (passed-off p k)

    passed_on : ((k : ℕ) → P (phase new k)) → (k : ℕ) → Passed (on_steps old new k) (phase new 0) (phase new k)
    unfolding on_steps
    passed_on p zero = passed_none refl
    passed_on p (suc k) =
        passed_then (on_steps old new k) (step_if (goes_on old new (suc k)) (step_to (suc k) 1)) (passed_on p k) (passed-if (goes_on old new (suc k)) (step_to (suc k) 1) (p (suc k)) (on-turn k) (on-stay k))

    -- ---- from the old set to the new one: sets of the loads 1 to n
    module _ (n : ℕ) (old-in : (j : ℕ) → (j ≡ 0) ⊎ (n < j) → old j ≡ false) (new_in : (j : ℕ) → (j ≡ 0) ⊎ (n < j) → new j ≡ false) where
      whole : (low : ℕ → Bool) → ((j : ℕ) → n < j → old j && new j ≡ low j) → phase low n ≡ low
      whole low h = same_set (λ j. go j (below_or n j))
        where
          go : (j : ℕ) → (n < j) ⊎ (j ≤ n) → phase low n j ≡ low j
          go j (inl l) = rw (lt-leb j n l) (h j l)
          go j (inr l) = rw (le-leb j n l) refl

      between : phase old 0 ≡ phase new 0
      between = same_set go
        where
          go : (j : ℕ) → phase old 0 j ≡ phase new 0 j
          go zero = old-in 0 (inl refl) ∙ sym (new_in 0 (inl refl))
          go (suc j) = rw (lt-leb (suc j) 0 (omega arith)) refl

      off-from-old : ((k : ℕ) → P (phase old k)) → Passed (off_steps old new n) old (phase old 0)
      off-from-old p = subst (λ v. Passed (off_steps old new n) v (phase old 0)) (whole old (λ j l. rw (old-in j (inr l)) refl)) (passed-off p n)

      -- when all are off that go off, what both sets share is on
      pub shared : ((k : ℕ) → P (phase old k)) → (j : ℕ) → 0 < j → stepped_all (off_steps old new n) old j ≡ old j && new j
      shared p j l = ap (λ (on : ℕ → Bool). on j) (off-from-old p).last ∙ rw (lt-leb j 0 l) refl

      pub passed-all : ((k : ℕ) → P (phase old k)) → ((k : ℕ) → P (phase new k)) → Passed (steps old new n) old new
      passed-all p q =
          let on = subst (λ v. Passed (on_steps old new n) (phase new 0) v) (whole new (λ j l. rw (new_in j (inr l)) (and-false (old j)))) (passed_on q n) in
          passed_then (off_steps old new n) (on_steps old new n) (off-from-old p) (subst (λ v. Passed (on_steps old new n) v new) (sym between) on)
