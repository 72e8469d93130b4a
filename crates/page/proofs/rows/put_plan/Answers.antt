-- `put_plan` meets its contract. Assumes nothing.
use mathlib.Core.List.{◌++◌}
use native.Mathlib.Omega.{arith}
use Rattle.lines.specs.Text.{bytes}
use Rattle.lines.proofs.Writes.{writes_then, room_first, room_then}
use Rattle.page.specs.Rows.{worth_digits, digits, watts, plan_row}
use Rattle.page.proofs.RowText.{plan-bytes, text-room, blanks-room, writes-filled}
use Rattle.page.proofs.rows.put_plan.Goals as goal

pub put_text-requires : goal.put_text-requires
unfolding plan_row
put_text-requires c = let a = c.args in room_first (digits worth_digits a.worth ++ watts a.power) (text-room c.requires)

pub put_digits-requires : goal.put_digits-requires
unfolding plan_row
put_digits-requires c = let a = c.args in room_first (watts a.power) (room_then {b = digits worth_digits a.worth ++ watts a.power} c.put_text.ensures (text-room c.requires))

pub put_watts-requires : goal.put_watts-requires
unfolding plan_row
put_watts-requires c =
    let a = c.args in
    room_then c.put_digits.ensures (room_then {b = digits worth_digits a.worth ++ watts a.power} c.put_text.ensures (text-room c.requires))

pub put_blanks-requires : goal.put_blanks-requires
unfolding plan_row
put_blanks-requires c =
    let a = c.args in
    blanks-room {s = bytes "worth " ++ digits worth_digits a.worth ++ watts a.power} (omega (arith, plan-bytes a.worth a.power)) c.requires
    (writes_then c.put_text.ensures (writes_then c.put_digits.ensures c.put_watts.ensures))

pub returns : goal.returns
unfolding plan_row
returns c =
    let a = c.args in
    writes-filled {s = bytes "worth " ++ digits worth_digits a.worth ++ watts a.power} (omega (arith, plan-bytes a.worth a.power))
    (writes_then c.put_text.ensures (writes_then c.put_digits.ensures c.put_watts.ensures)) c.put_blanks.ensures
