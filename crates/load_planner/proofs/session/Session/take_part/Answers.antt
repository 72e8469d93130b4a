-- `Session::take_part` meets its contract. Assumes nothing.
use mathlib.Core.Path.{◌≡◌}
use borrow.Author.Rules.{rules}
use lib.ListN.{length}
use Rattle.lines.specs.Input.{most_kept}
use Rattle.lines.proofs.Input.{held-few}
use Rattle.load_planner.specs.Session.{left_of}
use Rattle.load_planner.proofs.Counts.{took-bounds}
use Rattle.load_planner.proofs.Turns.{part-ended, part-held}
use Rattle.load_planner.proofs.session.Session.take_part.Goals as goal

pub invariant_of-self : goal.invariant_of-self
invariant_of-self c =
    let room : length c.args.self.now.line ≡ most_kept = search rules in
    record { few = held-few c.take_line-taken.ensures room c.args.self.now.few }

pub returns-then-taken-clause-taken : goal.returns-then-taken-clause-taken
returns-then-taken-clause-taken c = took-bounds _ _ _ _ _ c.requires c.take_line-taken.ensures

pub returns-else-taken-clause-taken : goal.returns-else-taken-clause-taken
returns-else-taken-clause-taken c = took-bounds _ _ _ _ _ c.requires c.take_line-taken.ensures

pub returns-then-taken-clause-rest : goal.returns-then-taken-clause-rest
returns-then-taken-clause-rest c =
    let s = c.args.self.now in
    let room : length s.line ≡ most_kept = search rules in
    part-ended (left_of s) _ _ _ _ _ room s.few c.requires c.take_line-taken.ensures c.if-taken.true _ c.answer.ensures

pub returns-else-taken-clause-rest : goal.returns-else-taken-clause-rest
returns-else-taken-clause-rest c =
    let s = c.args.self.now in
    let room : length s.line ≡ most_kept = search rules in
    part-held (left_of s) _ _ _ _ _ room s.few c.requires c.take_line-taken.ensures c.if-taken.false
