-- `Planner::portion` meets its contract: refused, cells filled, or the answer. Assumes nothing.
use Rattle.std.specs.Prelude.{Ok}
use Rattle.tables.specs.Refusals.{number_of}
use Prim.Native.Nat.{ℕ, min, ◌-◌, ◌<◌}
use mathlib.Core.Path.{◌≡◌, sym, ap, subst, ◌∙◌}
use native.Mathlib.Omega.{arith}
use Rattle.meaning.specs.Cells.{cells_of}
use Rattle.calls.specs.Portions.{PortionCall, portion_number, open_cells, Portioned}
use Rattle.calls.proofs.Portions.{passes, portions-kept, portions-broken, min-right}
use Rattle.planner.specs.declared.Planner.{Planner}
use Rattle.planner.specs.declared.portion.Portion.{Portion}
use Rattle.planner.specs.Planner.{held, state_in}
use Rattle.planner.specs.Portions.{portion_of, portion_done}
use Rattle.planner.proofs.Commands.{load-count}
use Rattle.planner.proofs.Searching.{kept, cells-few}
use Rattle.planner.proofs.Portioning.{refuses, fills, answers}
use Rattle.planner.proofs.Told.{unrefused}
use Rattle.planner.proofs.Planner.portion.Goals as goal

-- so many cells are open
taken : (p : Planner) (c : PortionCall) (cells k : ℕ) → cells ≡ cells_of (state_in p).tables → p.filled < cells → k ≡ min c.most (cells - p.filled)
    → (0 < open_cells (state_in p)) × (k ≡ min c.most (open_cells (state_in p)))
taken p c cells k of more is = (omega (arith, of, more), is ∙ ap (λ (n : ℕ). min c.most (n - p.filled)) of)

pub returns-then-not-keeps_limits : goal.returns-then-not-keeps_limits
returns-then-not-keeps_limits c =
    let a = c.args in
    let p = a.self in
    let asked = portion_of a.n a.out.now a.place a.work.now in
    portions-broken (held p) asked _ (sym c.keeps_limits.ensures.test ∙ c.if-not-keeps_limits.true) (ap (λ (r : Portion). portion_done r a.out.now a.work.now) c.portion_refused.ensures)

pub returns-in-Err : goal.returns-in-Err
unfolding portion_number
returns-in-Err c =
    let a = c.args in
    let p = a.self in
    let asked = portion_of a.n a.out.now a.place a.work.now in
    let h = c.keeps_limits.ensures.kept c.if-not-keeps_limits.false in
    let test = sym c.keeps_limits.ensures.test ∙ c.if-not-keeps_limits.false in
    let number : number_of c.in-Err.refusal ≡ portion_number (state_in p) asked = rw c.in-Err.is at c.portion_refusal.ensures in
    portions-kept (held p) asked _ test (
    subst (λ (x : Portion). Portioned (state_in p) asked (portion_done x a.out.now a.work.now)) (sym c.portion_refused-in-Err.ensures)
    (refuses p h asked c.in-Err.refusal number))

pub portion_answer-requires : goal.portion_answer-requires
unfolding portion_number
portion_answer-requires c =
    let a = c.args in
    let p = a.self in
    let asked = portion_of a.n a.out.now a.place a.work.now in
    let h = c.keeps_limits.ensures.kept c.if-not-keeps_limits.false in
    let none : portion_number (state_in p) asked ≡ 0 = sym c.portion_refusal.ensures ∙ unrefused _ c.in_default.not-Err in
    let passed = passes (state_in p) asked none in
    record {
      lawful = (h, omega (arith, passed.loads, load-count p h));
      run_bytes_in_bounds = (passed.free, passed.cells);
    }

pub returns-then-cells-from : goal.returns-then-cells-from
unfolding portion_number
returns-then-cells-from c =
    let a = c.args in
    let p = a.self in
    let asked = portion_of a.n a.out.now a.place a.work.now in
    let h = c.keeps_limits.ensures.kept c.if-not-keeps_limits.false in
    let test = sym c.keeps_limits.ensures.test ∙ c.if-not-keeps_limits.false in
    let none : portion_number (state_in p) asked ≡ 0 = sym c.portion_refusal.ensures ∙ unrefused _ c.in_default.not-Err in
    portions-kept (held p) asked _ test (answers p h asked none _ _ _ (omega (arith, c.if-cells-from.true, c.cells_of-cells.ensures)) c.portion_answer.ensures)

pub fill_part-requires : goal.fill_part-requires
unfolding portion_number
fill_part-requires c =
    let a = c.args in
    let p = a.self in
    let asked = portion_of a.n a.out.now a.place a.work.now in
    let h = c.keeps_limits.ensures.kept c.if-not-keeps_limits.false in
    let none : portion_number (state_in p) asked ≡ 0 = sym c.portion_refusal.ensures ∙ unrefused _ c.in_default.not-Err in
    let passed = passes (state_in p) asked none in
    let left = taken p asked c.cells_of-cells.result c.min-count.result c.cells_of-cells.ensures c.if-cells-from.false c.min-count.ensures in
    record {
      t_value = kept p.tables h.tables;
      count_nonzero = (omega (arith, passed.loads, load-count p h), passed.cells, omega arith, omega (arith, left.1, min-right a.n (open_cells (state_in p)), h.filled));
    }

pub with_filled-requires : goal.with_filled-requires
with_filled-requires c =
    let a = c.args in
    let p = a.self in
    let asked = portion_of a.n a.out.now a.place a.work.now in
    let h = c.keeps_limits.ensures.kept c.if-not-keeps_limits.false in
    let left = taken p asked c.cells_of-cells.result c.min-count.result c.cells_of-cells.ensures c.if-cells-from.false c.min-count.ensures in
    omega (arith, left.1, min-right a.n (open_cells (state_in p)), h.filled, cells-few p.tables h.tables)

pub returns : goal.returns
unfolding portion_number
returns c =
    let a = c.args in
    let p = a.self in
    let asked = portion_of a.n a.out.now a.place a.work.now in
    let h = c.keeps_limits.ensures.kept c.if-not-keeps_limits.false in
    let test = sym c.keeps_limits.ensures.test ∙ c.if-not-keeps_limits.false in
    let none : portion_number (state_in p) asked ≡ 0 = sym c.portion_refusal.ensures ∙ unrefused _ c.in_default.not-Err in
    let left = taken p asked c.cells_of-cells.result c.min-count.result c.cells_of-cells.ensures c.if-cells-from.false c.min-count.ensures in
    portions-kept (held p) asked _ test (
    subst (λ (q : Planner). Portioned (state_in p) asked (portion_done (record { planner = q; told = Ok tt; filled = c.min-count.result; count = 0 }) a.out.now c.fill_part.new.work)) (sym c.with_filled.ensures)
    (fills p h asked none c.min-count.result _ left.0 left.1 c.fill_part.ensures))
