-- `Session::finish` meets its contract: a line begun has a byte or more exactly if bytes are held. Assumes nothing.
use mathlib.Core.Path.{◌≡◌, sym, ap, ◌∙◌}
use native.Mathlib.Omega.{arith}
use borrow.Author.Rules.{rules}
use lib.ListN.{length, take, length-take}
use Rattle.lines.specs.Input.{most_kept}
use Rattle.calls.specs.Program.{Carried, at_end}
use Rattle.calls.proofs.Program.{end_none, end-some}
use Rattle.load_planner.specs.Session.{left_of, carried_of}
use Rattle.load_planner.proofs.session.Session.finish.Goals as goal
use Rattle.load_planner.proofs.session.Session.finish.Goals.{then-self-gt0, else-self-gt0}

pub returns-clause-end : goal.returns-clause-end
returns-clause-end c =
    let s = c.args.self.now in
    let room : length s.line ≡ most_kept = search rules in
    let n : length (take s.held s.line) ≡ s.held = omega (arith, length-take s.held s.line, s.few, room) in
    let e : left_of c.if-self-gt0.self ≡ at_end (carried_of s) = elim c.if-self-gt0.branch [
      | then-self-gt0 w ↦ ap left_of w.self-is ∙ ap (λ (x : Carried). x.left) w.answer.ensures ∙ sym (end-some _ _ (omega (arith, n, w.if-self-gt0.true)))
      | else-self-gt0 w ↦ ap left_of w.self-is ∙ sym (end_none _ _ (omega (arith, n, w.if-self-gt0.false)))
    ] in
    e
