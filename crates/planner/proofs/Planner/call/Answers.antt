-- `Planner::call` meets its contract: turned away with number 1, or decided and written. Assumes nothing.
use mathlib.Core.Path.{sym, ap, ◌∙◌}
use Prim.Native.Nat.{◌+◌, ◌≤◌}
use native.Mathlib.Omega.{arith}
use lib.ListN.{length}
use Rattle.lines.proofs.Wrote.{free-length}
use Rattle.calls.specs.Rows.{line_row, bytes_of}
use Rattle.planner.specs.declared.call.Called.{Called}
use Rattle.planner.specs.Planner.{state_in}
use Rattle.planner.specs.Decided.{Decides}
use Rattle.planner.specs.Calls.{call_of, done_of}
use Rattle.planner.proofs.Deciding.{line-bytes, line-decides}
use Rattle.planner.proofs.Calling.{broken, turned, text-few, written}
use Rattle.planner.proofs.Told.{numbers}
use Rattle.planner.proofs.Planner.call.Goals as goal

pub returns-then-not-keeps_limits : goal.returns-then-not-keeps_limits
returns-then-not-keeps_limits c =
    let a = c.args in
    let made = call_of a.line.now a.out.now a.place a.work.now in
    ap (λ (r : Called). done_of r a.out.now a.work.now) c.turned_away.ensures
    ∙ broken a.self made (sym c.keeps_limits.ensures.test ∙ c.if-not-keeps_limits.true)

pub returns-then-out-place : goal.returns-then-out-place
returns-then-out-place c =
    let a = c.args in
    let made = call_of a.line.now a.out.now a.place a.work.now in
    ap (λ (r : Called). done_of r a.out.now a.work.now) c.turned_away-then-out-place.ensures
    ∙ turned a.self (c.keeps_limits.ensures.kept c.if-not-keeps_limits.false) made (omega (arith, c.if-out-place.true))

pub returns-then-out-place-2 : goal.returns-then-out-place-2
returns-then-out-place-2 c =
    let a = c.args in
    let made = call_of a.line.now a.out.now a.place a.work.now in
    let needed = c.bytes_for.ensures ∙ line-bytes (state_in a.self) a.line.now c.read-command.ensures in
    ap (λ (r : Called). done_of r a.out.now a.work.now) c.turned_away-then-out-place-2.ensures
    ∙ turned a.self (c.keeps_limits.ensures.kept c.if-not-keeps_limits.false) made (omega (arith, c.if-out-place-2.true, needed, c.if-out-place.false))

pub write_answer-count-requires : goal.write_answer-count-requires
write_answer-count-requires c =
    let a = c.args in
    let h = c.keeps_limits.ensures.kept c.if-not-keeps_limits.false in
    let made = call_of a.line.now a.out.now a.place a.work.now in
    let needed = c.bytes_for.ensures ∙ line-bytes (state_in a.self) a.line.now c.read-command.ensures in
    let answered : Decides (state_in a.self) (line_row (state_in a.self) a.line.now) a.work.now c.decide-d.new.work c.decide-d.result =
    line-decides (state_in a.self) a.line.now c.read-command.ensures c.decide-d.ensures in (
      h.tables,
      omega (arith, text-few a.self h made c.decide-d.result answered.answer, free-length a.place a.out.now, needed, c.if-out-place-2.false, c.if-out-place.false),
    )

pub returns : goal.returns
returns c =
    let a = c.args in
    let h = c.keeps_limits.ensures.kept c.if-not-keeps_limits.false in
    let made = call_of a.line.now a.out.now a.place a.work.now in
    let needed = c.bytes_for.ensures ∙ line-bytes (state_in a.self) a.line.now c.read-command.ensures in
    let answered : Decides (state_in a.self) (line_row (state_in a.self) a.line.now) a.work.now c.decide-d.new.work c.decide-d.result =
    line-decides (state_in a.self) a.line.now c.read-command.ensures c.decide-d.ensures in
    let free : a.place + bytes_of (line_row (state_in a.self) a.line.now) ≤ length a.out.now = omega (arith, needed, c.if-out-place-2.false, c.if-out-place.false) in
    written a.self h made c.decide-d.result answered.answer free
    _ _ _ _ (c.told.ensures ∙ numbers c.decide-d.result.answer) c.write_answer-count.ensures answered.work
