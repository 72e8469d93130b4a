-- Steps laid out by value: one more at the end, and the steps that a loop has put there. Assumes nothing.
use Prim.Native.Nat.{ℕ, zero, suc, ◌+◌, ◌-◌, ◌≤◌, ◌<◌}
use mathlib.Core.Path.{◌≡◌, refl, sym, ap, ap₂, ◌∙◌}
use mathlib.Core.Bool.{Bool, true, false}
use mathlib.Core.List.{List, [], ◌∷◌, ◌++◌, append-nil, append_assoc}
use native.Mathlib.Numerals.{add-one}
use native.Mathlib.Omega.{arith}
use lib.ListN.{length, length-append}
use Rattle.lists.specs.Tests.{pick}
use Rattle.lists.proofs.Arrays.{laid-snoc}
use Rattle.tables.specs.Limits.{max_loads}
use Rattle.changeover.specs.declared.order.Step.{Step}
use Rattle.changeover.specs.declared.order.Order.{Order}
use Rattle.changeover.specs.Steps.{step_to, no_step, step_if, goes_off, goes_on, off_steps, on_steps}
use Rattle.changeover.specs.Order.{laid_order, one_more}
use Rattle.changeover.proofs.Lengths.{step-most, on-few}

-- one step more, where it is wanted
pub laid_more : (ss : List Step) (b : Bool) (k m : ℕ) → (b ≡ true → length ss < max_loads) → pick b (one_more (laid_order ss) k m) (laid_order ss) ≡ laid_order (ss ++ step_if b (step_to k m))
unfolding laid_order one_more
laid_more ss false k m room = rw (append-nil ss) refl
laid_more ss true k m room =
    ap₂ (λ c xs. record { count = c; items = xs }) (sym (length-append ss (step_to k m ∷ []))) (laid-snoc no_step max_loads ss (step_to k m) (room refl))

pub laid-count : (ss : List Step) (o : Order) → o ≡ laid_order ss → o.count ≡ length ss
unfolding laid_order
laid-count ss o e = ap (λ (y : Order). y.count) e

-- the steps of the loads that go off, down to load k: those that were put, and those that are to come
pub record OffSoFar (old new : ℕ → Bool) (n k : ℕ) (o : Order) : Type 0 where
  pub done : List Step
  pub held : o ≡ laid_order done
  pub few : length done + k ≤ n
  pub whole : done ++ off_steps old new k ≡ off_steps old new n

module _ (old new : ℕ → Bool) (n : ℕ) where
  off-one : (k : ℕ) (o : Order) (b : Bool) → b ≡ goes_off old new (suc k) → n ≤ max_loads → OffSoFar old new n (suc k) o → OffSoFar old new n k (pick b (one_more o (suc k) 0) o)
  unfolding off_steps
  off-one k o b is most x =
      let one = step_if (goes_off old new (suc k)) (step_to (suc k) 0) in
      record {
        done = x.done ++ one;
        held = rw (is, x.held) (laid_more x.done (goes_off old new (suc k)) (suc k) 0 (λ _. omega (arith, x.few, most)));
        few = omega (arith, x.few, length-append x.done one, step-most (goes_off old new (suc k)) (step_to (suc k) 0));
        whole = append_assoc x.done one (off_steps old new k) ∙ x.whole;
      }

  -- load k, as the code counts down
  pub off-turn : (k : ℕ) (o : Order) (b : Bool) → 0 < k → b ≡ goes_off old new k → n ≤ max_loads → OffSoFar old new n k o → OffSoFar old new n (k - 1) (pick b (one_more o k 0) o)
  off-turn zero o b l is most x = absurd (omega (arith, l))
  off-turn (suc k) o b l is most x = let e : suc k - 1 ≡ k = omega arith in rw e (off-one k o b is most x)

  -- there is a place for it
  pub off-room : (k : ℕ) (o : Order) → 0 < k → n ≤ max_loads → OffSoFar old new n k o → o.count < max_loads
  off-room k o l most x = omega (arith, x.few, l, most, laid-count x.done o x.held)

  pub off-all : (o : Order) → OffSoFar old new n 0 o → o ≡ laid_order (off_steps old new n)
  unfolding off_steps
  off-all o x = x.held ∙ ap laid_order (sym (append-nil x.done) ∙ x.whole)

  -- no load goes on yet
  pub on_none : (o : Order) → o ≡ laid_order (off_steps old new n) → o ≡ laid_order (off_steps old new n ++ on_steps old new 0)
  unfolding on_steps
  on_none o e = e ∙ ap laid_order (sym (append-nil (off_steps old new n)))

  module _ (k : ℕ) (o : Order) (b : Bool) (is : b ≡ goes_on old new (k + 1)) (l : k < n) (most : n ≤ max_loads) (e : o ≡ laid_order (off_steps old new n ++ on_steps old new k)) where
    goes : b ≡ goes_on old new (suc k)
    goes = rw add-one at is

    few : b ≡ true → length (off_steps old new n ++ on_steps old new k) < max_loads
    few t = omega (arith, on-few old new k n l (sym goes ∙ t), length-append (off_steps old new n) (on_steps old new k), most)

    -- there is a place for load k + 1
    pub on_room : b ≡ true → o.count < max_loads
    on_room t = omega (arith, few t, laid-count (off_steps old new n ++ on_steps old new k) o e)

    pub on-turn : pick b (one_more o (k + 1) 1) o ≡ laid_order (off_steps old new n ++ on_steps old new (k + 1))
    unfolding on_steps
    on-turn =
        let offs = off_steps old new n in
        let ons = on_steps old new k in
        rw (add-one k, e, goes)
        (laid_more (offs ++ ons) (goes_on old new (suc k)) (suc k) 1 (λ t. few (goes ∙ t)) ∙ ap laid_order (append_assoc offs ons (step_if (goes_on old new (suc k)) (step_to (suc k) 1))))
