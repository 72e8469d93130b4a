-- `put_watts` meets its contract: a blank, the digits and the `W`. Assumes nothing.
use mathlib.Core.List.{◌++◌}
use Rattle.lines.specs.Text.{bytes}
use Rattle.lines.proofs.Writes.{writes_then, room_first, room_then}
use Rattle.page.specs.Rows.{power_digits, digits, watts}
use Rattle.page.proofs.rows.put_watts.Goals as goal

pub put-requires : goal.put-requires
unfolding watts
put-requires c = room_first (digits power_digits c.args.power ++ bytes "W") c.requires

pub put_digits-requires : goal.put_digits-requires
unfolding watts
put_digits-requires c = room_first (bytes "W") (room_then {b = digits power_digits c.args.power ++ bytes "W"} c.put.ensures c.requires)

pub put_text-requires : goal.put_text-requires
unfolding watts
put_text-requires c = room_then c.put_digits.ensures (room_then {b = digits power_digits c.args.power ++ bytes "W"} c.put.ensures c.requires)

pub returns : goal.returns
unfolding watts
returns c = writes_then c.put.ensures (writes_then c.put_digits.ensures c.put_text.ensures)
