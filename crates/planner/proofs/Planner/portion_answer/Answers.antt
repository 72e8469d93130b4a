-- `Planner::portion_answer` meets its contract: the outcome is read from the cells, and written. Assumes nothing.
use Prim.Native.Nat.{◌+◌, ◌≤◌, ◌<◌}
use Rattle.std.specs.Prelude.{Result}
use mathlib.Core.Path.{refl, ap, ◌∙◌}
use native.Mathlib.Omega.{arith}
use borrow.Author.Rules.{rules}
use lib.ListN.{length}
use Rattle.lines.specs.declared.answer.Answer.{Answer}
use Rattle.tables.specs.declared.refusal.Refusal.{Refusal}
use Rattle.lines.specs.Answers.{number_of, numbered, run_bytes}
use Rattle.lines.proofs.Wrote.{free-length}
use Rattle.tables.specs.Stored.{tables_of}
use Rattle.meaning.specs.Cells.{cells_of}
use Rattle.calls.specs.Demand2.{PlanCall}
use Rattle.calls.specs.Portions.{PortionCall, plan_call}
use Rattle.calls.proofs.Portions.{plan-line}
use Rattle.planner.specs.declared.Planner.{Planner}
use Rattle.planner.specs.Planner.{state_in, Lawful}
use Rattle.planner.specs.Portions.{portion_of}
use Rattle.planner.proofs.Commands.{load-count, few}
use Rattle.planner.proofs.Searching.{kept}
use Rattle.planner.proofs.Portioning.{Read, read_from, text-few, answered}
use Rattle.planner.proofs.Told.{numbers}
use Rattle.planner.proofs.Planner.portion_answer.Goals as goal

-- the call on `plan` that it answers
plan-made : (p : Planner) → Lawful p → 0 < p.tables.loads.count → (c : PortionCall) → c.place + run_bytes ≤ length c.output → cells_of (tables_of p.tables) ≤ length c.work
    → PlanCall (state_in p).tables (plan_call c)
plan-made p h some c free cells = record {
  enough = record { line = plan-line; free = free; cells = cells };
  loads = omega (arith, some, load-count p h);
}

pub read_all-found-requires : goal.read_all-found-requires
read_all-found-requires c =
    record {
      t_value = kept c.args.self.tables c.requires.lawful.0.tables;
      count_nonzero = (c.requires.lawful.1, c.requires.run_bytes_in_bounds.1);
    }

pub plan_answer-answer-requires : goal.plan_answer-answer-requires
plan_answer-answer-requires c = few c.args.self c.requires.lawful.0

pub write_answer-count-requires : goal.write_answer-count-requires
write_answer-count-requires c =
    let p = c.args.self in
    let h = c.requires.lawful.0 in
    let found = c.read_all-found.result in
    let read : Read p found = read_from p found (λ x e. (search rules, search rules, search rules)) c.read_all-found.ensures.read in
    (h.tables, rw c.plan_answer-answer.ensures (omega (arith, text-few p h found read, free-length c.args.place c.args.out.now, c.requires.run_bytes_in_bounds.0)))

pub returns : goal.returns
returns c =
    let a = c.args in
    let p = a.self in
    let h = c.requires.lawful.0 in
    let found = c.read_all-found.result in
    let read : Read p found = read_from p found (λ x e. (search rules, search rules, search rules)) c.read_all-found.ensures.read in
    let made = portion_of 0 a.out.now a.place a.work.now in
    let answer = ap (λ (a : Result Answer Refusal). number_of (numbered a)) c.plan_answer-answer.ensures in
    record {
      planner = c.with_filled.ensures;
      filled = refl;
      answers = answered p h found read (plan_call made) (plan-made p h c.requires.lawful.1 made c.requires.run_bytes_in_bounds.0 c.requires.run_bytes_in_bounds.1)
          c.read_all-found.ensures.read.right _ _ _ _ (c.told.ensures ∙ numbers _ ∙ answer) (rw c.plan_answer-answer.ensures at c.write_answer-count.ensures) c.read_all-found.ensures.cleared;
    }
