-- `fill` meets its contract: each turn fills what is asked of one stretch. Assumes nothing.
use Prim.Native.Nat.{ℕ, min, ◌+◌, ◌-◌, ◌%◌, ◌≤◌, ◌<◌}
use mathlib.Core.Path.{◌≡◌, refl, sym, subst}
use mathlib.Core.List.{List}
use native.Mathlib.Nat.{le_of_lt, div-add-mod'}
use native.Mathlib.Omega.{arith}
use lib.ListN.{length}
use Rattle.cells.specs.declared.problem.Shape.{Shape}
use Rattle.cells.specs.Work.{cells_needed, Ready}
use Rattle.cells.specs.Stretch.{FilledBy}
use Rattle.cells.proofs.Filling.{across-pos, load_lt, index-lt, allowance-lt, place_at, filled_none, filled-then, worked-filled}
use Rattle.cells.proofs.fill.fill.Goals as goal

ready : (sh : Shape) (w v : List ℕ) → Ready sh w → length v ≡ length w → Ready sh v
ready sh w v r e = record { sane = r.sane; room = omega (arith, r.room) }

-- a turn: the cell to be filled, how far its stretch goes, and what is filled then
module _ (sh : Shape) (i to end : ℕ) (l : i < to) (m : to ≤ cells_needed sh) (z : end ≡ min (sh.budget + 1) (to - (i - i % (sh.budget + 1)))) where
  inside : i < cells_needed sh
  inside = omega arith

  short : i % (sh.budget + 1) < end
  short = omega (arith, allowance-lt sh i inside, div-add-mod' i (sh.budget + 1))

  more : {o w v u : List ℕ} {from : ℕ} → from ≤ i → FilledBy sh o w v from i
      → (at : ℕ) → i - i % (sh.budget + 1) ≡ at → FilledBy sh o v u (at + i % (sh.budget + 1)) (at + end)
      → FilledBy sh o w u from (i - i % (sh.budget + 1) + end)
  more {o} {w} {v} {u} k f at d g p q =
      let r = div-add-mod' i (sh.budget + 1) in
      let a : at + i % (sh.budget + 1) ≡ i = omega arith in
      filled-then p k (omega (arith, short)) (f p q)
      (subst (λ y. FilledBy sh o v u y (i - i % (sh.budget + 1) + end)) a (subst (λ y. FilledBy sh o v u (at + i % (sh.budget + 1)) (y + end)) (sym d) g) p q)

pub overflow_add-width : goal.overflow_add-width
overflow_add-width c = omega (arith, c.requires.ready.0.sane.budget)

pub overflow_add-across : goal.overflow_add-across
overflow_add-across c = let h = c.requires.ready.0.sane in omega (arith, h.states, h.stages)

pub loop-i-init : goal.loop-i-init
loop-i-init c = (omega arith, omega arith, refl, λ p q. filled_none p _ _)

pub overflow_sub-at : goal.overflow_sub-at
overflow_sub-at c = omega (arith, div-add-mod' c.loop-i.i (c.args.sh.budget + 1))

pub nonzero_div-rank-in-loop-i : goal.nonzero_div-rank-in-loop-i
nonzero_div-rank-in-loop-i c =
    across-pos c.args.sh _ (inside c.args.sh _ c.args.to _ c.loop-i-test.true c.requires.from_le_to.1 c.min-end.ensures)

pub overflow_sub-sh : goal.overflow_sub-sh
overflow_sub-sh c =
    le_of_lt (load_lt c.args.sh _ (inside c.args.sh _ c.args.to _ c.loop-i-test.true c.requires.from_le_to.1 c.min-end.ensures))

pub nonzero_rem-rank : goal.nonzero_rem-rank
nonzero_rem-rank c =
    across-pos c.args.sh _ (inside c.args.sh _ c.args.to _ c.loop-i-test.true c.requires.from_le_to.1 c.min-end.ensures)

pub stretch-requires : goal.stretch-requires
stretch-requires c =
    let l = c.loop-i in
    let z = c.min-end.ensures in
    let o = inside c.args.sh l.i c.args.to _ c.loop-i-test.true c.requires.from_le_to.1 z in
    let k = load_lt c.args.sh l.i o in
    let x = index-lt c.args.sh l.i o in
    let a = short c.args.sh l.i c.args.to _ c.loop-i-test.true c.requires.from_le_to.1 z in
    record {
      ready = (ready _ _ _ c.requires.ready.0 l.invariant.2, c.requires.ready.1);
      k_nonzero = (omega arith, omega arith, x, le_of_lt a, omega arith);
    }

pub overflow_add-i : goal.overflow_add-i
overflow_add-i c =
    let r = c.requires.ready.0.room in
    omega (arith, c.requires.from_le_to.1, c.min-end.ensures, c.loop-i-test.true)

pub loop-i-smaller : goal.loop-i-smaller
loop-i-smaller c =
    let l = c.loop-i in
    let a = short c.args.sh l.i c.args.to _ c.loop-i-test.true c.requires.from_le_to.1 c.min-end.ensures in
    omega (arith, c.min-end.ensures, c.loop-i-test.true, div-add-mod' l.i (c.args.sh.budget + 1))

pub loop-i-preserved : goal.loop-i-preserved
loop-i-preserved c =
    let l = c.loop-i in
    let sh = c.args.sh in
    let z = c.min-end.ensures in
    let o = inside sh l.i c.args.to _ c.loop-i-test.true c.requires.from_le_to.1 z in
    let k = load_lt sh l.i o in
    let x = index-lt sh l.i o in
    let a = short sh l.i c.args.to _ c.loop-i-test.true c.requires.from_le_to.1 z in (
      omega (arith, l.invariant.0, div-add-mod' l.i (sh.budget + 1)),
      omega (arith, c.loop-i-test.true),
      omega arith,
      more sh l.i c.args.to _ c.loop-i-test.true c.requires.from_le_to.1 z l.invariant.0 l.invariant.3 _ (place_at sh l.i o)
          (worked-filled sh _ _ _ _ _ _ _ (omega arith) (omega arith) x (omega arith) c.stretch.ensures),
    )

pub returns : goal.returns
returns c =
    let l = c.loop-i in
    let s = c.args in
    let e : l.i ≡ s.to = omega arith in
    subst (λ z. FilledBy s.sh s.o.now s.work.now l.work s.from z) e l.invariant.3

pub shape_of-work : goal.shape_of-work
shape_of-work c = c.loop-i.invariant.2
