-- `Planner::portion_refusal` meets its contract: the tests, in the order of their numbers. Assumes nothing.
use mathlib.Core.Path.{◌≡◌, sym, ◌∙◌}
use native.Mathlib.Omega.{arith}
use lib.ListN.{length}
use Rattle.calls.proofs.Portions.{no_room, no-loads, out_of_range, too_few, unrefused}
use Rattle.planner.specs.declared.Planner.{Planner}
use Rattle.planner.specs.Planner.{state_in, Lawful}
use Rattle.planner.proofs.Commands.{load-count}
use Rattle.planner.proofs.Planner.portion_refusal.Goals as goal

pub returns-then-room-place : goal.returns-then-room-place
returns-then-room-place c = sym (no_room (state_in c.args.self) c.args.n c.args.room c.args.place c.args.cells (omega (arith, c.if-room-place.true)))

pub returns-then-room-place-lt-RUN_BYTES : goal.returns-then-room-place-lt-RUN_BYTES
returns-then-room-place-lt-RUN_BYTES c =
    sym (no_room (state_in c.args.self) c.args.n c.args.room c.args.place c.args.cells (omega (arith, c.if-room-place-lt-RUN_BYTES.true, c.if-room-place.false)))

-- there are loads
some-loads : (p : Planner) → Lawful p → (p.tables.loads.count ≡ 0 → ⊥) → length (state_in p).tables.loads ≡ 0 → ⊥
some-loads p h d z = d (load-count p h ∙ z)

pub returns-then-self-eq0 : goal.returns-then-self-eq0
returns-then-self-eq0 c =
    let p = c.args.self in
    sym (no-loads (state_in p) c.args.n c.args.room c.args.place c.args.cells (omega (arith, c.if-room-place-lt-RUN_BYTES.false, c.if-room-place.false)) (sym (load-count p c.requires) ∙ c.if-self-eq0.true))

pub returns-then-not-between : goal.returns-then-not-between
returns-then-not-between c =
    let p = c.args.self in
    sym (out_of_range (state_in p) c.args.n c.args.room c.args.place c.args.cells (omega (arith, c.if-room-place-lt-RUN_BYTES.false, c.if-room-place.false)) (some-loads p c.requires c.if-self-eq0.false) (sym c.between.ensures ∙ c.if-not-between.true))

pub returns-then-cells-cells_of : goal.returns-then-cells-cells_of
returns-then-cells-cells_of c =
    let p = c.args.self in
    sym (too_few (state_in p) c.args.n c.args.room c.args.place c.args.cells (omega (arith, c.if-room-place-lt-RUN_BYTES.false, c.if-room-place.false)) (some-loads p c.requires c.if-self-eq0.false) (sym c.between.ensures ∙ c.if-not-between.false)
    (omega (arith, c.if-cells-cells_of.true, c.cells_of.ensures)))

pub returns : goal.returns
returns c =
    let p = c.args.self in
    sym (unrefused (state_in p) c.args.n c.args.room c.args.place c.args.cells (omega (arith, c.if-room-place-lt-RUN_BYTES.false, c.if-room-place.false)) (some-loads p c.requires c.if-self-eq0.false) (sym c.between.ensures ∙ c.if-not-between.false)
    (omega (arith, c.if-cells-cells_of.false, c.cells_of.ensures)))
