-- How many steps there are: at most one for each load. Assumes nothing.
use Prim.Native.Nat.{ℕ, zero, suc, ◌+◌, ◌-◌, ◌≤◌, ◌<◌}
use mathlib.Core.Path.{◌≡◌, refl}
use mathlib.Core.Bool.{Bool, true, false, ◌&&◌, not}
use native.Mathlib.Omega.{arith}
use lib.ListN.{length, length-append}
use Rattle.changeover.specs.declared.order.Step.{Step}
use Rattle.changeover.specs.Steps.{step_to, step_if, goes_off, goes_on, off_steps, on_steps}

pub step-most : (b : Bool) (s : Step) → length (step_if b s) ≤ 1
step-most true s = omega arith
step-most false s = omega arith

-- a load has one step at most: it cannot go off and on
one_of : (o w : Bool) (s u : Step) → length (step_if (o && not w) s) + length (step_if (not o && w) u) ≤ 1
one_of true true s u = omega arith
one_of true false s u = omega arith
one_of false true s u = omega arith
one_of false false s u = omega arith

module _ (old new : ℕ → Bool) where
  pub off-length : (k : ℕ) → length (off_steps old new (suc k)) ≡ length (step_if (goes_off old new (suc k)) (step_to (suc k) 0)) + length (off_steps old new k)
  unfolding off_steps
  off-length k = length-append (step_if (goes_off old new (suc k)) (step_to (suc k) 0)) (off_steps old new k)

  pub on-length : (k : ℕ) → length (on_steps old new (suc k)) ≡ length (on_steps old new k) + length (step_if (goes_on old new (suc k)) (step_to (suc k) 1))
  unfolding on_steps
  on-length k = length-append (on_steps old new k) (step_if (goes_on old new (suc k)) (step_to (suc k) 1))

  pub steps-few : (n : ℕ) → length (off_steps old new n) + length (on_steps old new n) ≤ n
  unfolding off_steps on_steps
  steps-few zero = omega arith
  steps-few (suc k) =
      omega (arith, steps-few k, off-length k, on-length k, one_of (old (suc k)) (new (suc k)) (step_to (suc k) 0) (step_to (suc k) 1))

  -- d loads more have at most d steps more
  off-more : (k d n : ℕ) → d + k ≡ n → length (off_steps old new n) ≤ d + length (off_steps old new k)
  off-more k zero n e = let z : n ≡ k = omega (arith, e) in rw z (omega arith)
  off-more k (suc d) zero e = absurd (omega (arith, e))
  off-more k (suc d) (suc m) e = omega (arith, off-more k d m (omega (arith, e)), off-length m, step-most (goes_off old new (suc m)) (step_to (suc m) 0))

  -- so a load of n that goes on finds a place among n, whatever goes off
  pub on-few : (k n : ℕ) → suc k ≤ n → goes_on old new (suc k) ≡ true → length (off_steps old new n) + length (on_steps old new k) < n
  on-few k n l on =
      let one : length (step_if (goes_on old new (suc k)) (step_to (suc k) 1)) ≡ 1 = rw on refl in
      omega (arith, off-more (suc k) (n - suc k) n (omega (arith, l)), steps-few (suc k), on-length k, one, l)
