-- `split` meets its contract: before each turn the strip is raised to the parts below the next step. Assumes nothing.
use Prim.Native.Nat.{ℕ, ◌+◌}
use mathlib.Core.Path.{◌≡◌, sym, ◌∙◌, subst}
use mathlib.Core.List.{List}
use Rattle.std.specs.Prelude.{Option}
use native.Mathlib.Numerals.{add-one}
use native.Mathlib.Nat.{le_refl}
use native.Mathlib.Omega.{arith}
use Rattle.meaning.specs.Best.{shares}
use Rattle.cells.specs.Work.{cells_in}
use Rattle.cells.specs.Strip.{moved, Raised, Rising, Starts, Passed, NextStep}
use Rattle.cells.proofs.Shares.{step_or, step-within, step-passed, step-starts, Shared, before, shared-none, shared-skip, shared-take, shared-done}
use Rattle.cells.proofs.strip.split.Goals as goal

module _ (x y : ℕ → ℕ) (s t : List ℕ) (from to : ℕ) where
  start : (n : ℕ) → Passed x 0 0 to n → Shared x y s s from to n
  start n e = shared-skip x y s s from to 0 (shared-none x y s from to) e

  -- a step is taken, and the next is looked for
  turn : (c v : ℕ) → Shared x y s t from to c → v ≡ x c → (u : List ℕ) → (Rising y to → Raised t u from to (moved c v y)) → (n : ℕ) → Passed x v (c + 1) to n
      → Shared x y s u from to n
  turn c v p e u r n q =
      shared-skip x y s u from to (c + 1) (shared-take x y s t from to c p {u = u} (λ k. subst (λ z. Raised t u from to (moved c z y)) e (r k)))
      (subst (λ z. Passed x z (c + 1) to n) (last v e) q)
    where
      last : (v : ℕ) → v ≡ x c → v ≡ before x y (c + 1)
      last v h = rw add-one h

  -- what a step raises the strip to, by where the other side begins
  taken : (c v n m first : ℕ) (found : Option ℕ) → NextStep y 0 0 m found → first ≡ step_or found m → m ≡ to → n ≡ to → {u : List ℕ}
      → (Starts y first n → Raised t u from n (moved c v y)) → Rising y to → Raised t u from to (moved c v y)
  taken c v n m first found h e em en {u} r k =
      let b = subst (λ z. Starts y (step_or found m) z) (em ∙ sym en) (step-starts (subst (Rising y) (sym em) k) found h) in
      subst (λ z. Raised t u from z (moved c v y)) en (r (subst (λ z. Starts y z n) (sym e) b))

  -- a step as far as the strip
  done : (n : ℕ) → n ≡ to → Shared x y s t from n n → Rising x to → Rising y to → Raised s t from to (λ a. (shares x y a).value)
  done n e p = subst (λ m. Rising x m → Rising y m → Raised s t from m (λ a. (shares x y a).value)) e (shared-done x y s t from n n p (le_refl n))

pub loop-step-init : goal.loop-step-init
loop-step-init c =
    let s = c.args in
    let x = cells_in s.x.now in record {
      within = step-within x 0 0 _ _ c.next_step-step.ensures;
      shared = start x (cells_in s.y.now) s.strip.now s.strip.now s.from _ _ (step-passed _ c.next_step-step.ensures);
    }

pub loop-step-preserved : goal.loop-step-preserved
loop-step-preserved c =
    let s = c.args in
    let l = c.loop-step in
    let x = cells_in s.x.now in
    let y = cells_in s.y.now in
    let n = c.next_step-step-in-Some.ensures in record {
      within = step-within x _ _ _ _ n;
      shared = turn x y s.strip.now l.strip s.from _ c.in-Some.c _ (rw c.in-Some.is at l.invariant.shared) c.held-v.ensures _
          (taken x y s.strip.now l.strip s.from _ c.in-Some.c _ _ _ _ c.next_step.result c.next_step.ensures c.unwrap_or-first.ensures (omega arith) (omega arith) c.lift_step.ensures)
          _ (step-passed _ n);
    }

pub loop-step-smaller : goal.loop-step-smaller
loop-step-smaller c =
    let b = rw c.in-Some.is at c.loop-step.invariant.within in
    let p = step-passed _ c.next_step-step-in-Some.ensures in
    rw c.in-Some.is (omega (arith, b, p.low))

pub returns : goal.returns
returns c =
    let s = c.args in
    done (cells_in s.x.now) (cells_in s.y.now) s.strip.now c.loop-step.strip s.from _ _ c.requires.0 (rw c.in_default.is at c.loop-step.invariant.shared)
