-- `write_page` meets its contract: row one, and what stands below it. Assumes nothing.
use Prim.Native.Nat.{ℕ, ◌-◌, ◌*◌}
use mathlib.Core.Path.{◌≡◌, ap, ◌∙◌}
use native.Mathlib.Omega.{arith}
use lib.ListN.{replicate, length-append, length-replicate}
use Rattle.lines.proofs.Wrote.{wrote-length}
use Rattle.lines.proofs.Writes.{writes_then}
use Rattle.marks.specs.Sets.{mark_in}
use Rattle.tables.specs.Stored.{tables_of, loads_of}
use Rattle.engine.specs.declared.figures.Figures.{Figures}
use Rattle.planner.specs.Planner.{state_in}
use Rattle.planner.proofs.Commands.{few}
use Rattle.planner.proofs.Searching.{shown-lines, planned-is, set_is}
use Rattle.page.specs.Rows.{page_bytes, row_bytes, load_row_count, blank, plan_row, no_plan_row, load_rows}
use Rattle.page.proofs.RowText.{no-plan-length, plan-length, rows-length}
use Rattle.page.proofs.Drawn.{status-no-set, page-none, page-plan, wrote-whole}
use Rattle.page.proofs.drawing.write_page.Goals as goal

pub put_no_plan-requires : goal.put_no_plan-requires
put_no_plan-requires c = record { fits = omega (arith, c.requires.0.page, no-plan-length, c.requires.1) }

pub put_blanks-requires : goal.put_blanks-requires
put_blanks-requires c =
    let w = c.put_no_plan.ensures.wrote in
    omega (arith, c.requires.0.page, w.end, wrote-length w, c.requires.1, no-plan-length)

pub returns-then-planner-eq-NO_SET : goal.returns-then-planner-eq-NO_SET
returns-then-planner-eq-NO_SET c =
    let p = c.args.planner in
    let w = c.put_no_plan.ensures.wrote in
    let e : page_bytes - c.put_no_plan.new.w.at ≡ load_row_count * row_bytes = omega (arith, w.end, no-plan-length, c.requires.1) in
    let rest = replicate (load_row_count * row_bytes) blank in
    record {
      lent = (writes_then c.put_no_plan.ensures c.put_blanks.ensures).lent;
      page = wrote-whole (omega (arith, c.requires.0.page, length-append no_plan_row rest, no-plan-length, length-replicate {A = ℕ} (load_row_count * row_bytes) blank))
          (rw c.requires.1 at (writes_then c.put_no_plan.ensures (rw e at c.put_blanks.ensures)).wrote)
          ∙ page-none (state_in p) c.args.load c.requires.0.low (status-no-set p.outcome.status _ (omega (arith, c.if-planner-eq-NO_SET.true, c.requires.0.current)));
    }

pub figures_of-figures-requires : goal.figures_of-figures-requires
figures_of-figures-requires c = few c.args.planner c.requires.0.lawful

pub put_plan-requires : goal.put_plan-requires
put_plan-requires c = let v = c.figures_of-figures.result in record { fits = omega (arith, c.requires.0.page, plan-length v.worth v.power, c.requires.1) }

pub put_loads-requires : goal.put_loads-requires
put_loads-requires c =
    let p = c.args.planner in
    let most = few p c.requires.0.lawful in
    let v = c.figures_of-figures.result in
    let w = c.put_plan.ensures.wrote in
    (record { fits = omega (arith, c.requires.0.page, w.end, wrote-length w, c.requires.1, plan-length v.worth v.power, rows-length (loads_of p.tables.loads) (mark_in p.outcome.run.set) c.args.load load_row_count) }, c.requires.0.low, omega (arith, c.requires.0.high, most), most)

pub returns : goal.returns
unfolding tables_of
returns c =
    let p = c.args.planner in
    let h = c.requires.0.lawful in
    let fits : p.outcome.status ≡ 1 → ⊥ = λ z. omega (arith, z, c.if-planner-eq-NO_SET.false) in
    let v = c.figures_of-figures.result in
    let σ = mark_in p.outcome.run.set in
    let rest = load_rows (loads_of p.tables.loads) σ c.args.load load_row_count in
    record {
      lent = (writes_then c.put_plan.ensures c.put_loads.ensures).lent;
      page = wrote-whole (omega (arith, c.requires.0.page, length-append (plan_row v.worth v.power) rest, plan-length v.worth v.power, rows-length (loads_of p.tables.loads) σ c.args.load load_row_count))
          (rw c.requires.1 at (writes_then c.put_plan.ensures c.put_loads.ensures).wrote)
          ∙ page-plan (state_in p) c.args.load (shown-lines p h) σ v.worth v.power (planned-is p h c.requires.0.current fits) (set_is p h c.requires.0.current fits)
          (ap (λ (x : Figures). x.worth) c.figures_of-figures.ensures) (ap (λ (x : Figures). x.power) c.figures_of-figures.ensures);
    }
