-- `put_no_plan` meets its contract. Assumes nothing.
use native.Mathlib.Omega.{arith}
use Rattle.page.specs.Rows.{no_plan_row}
use Rattle.page.proofs.RowText.{text-room, blanks-room, writes-filled}
use Rattle.page.proofs.rows.put_no_plan.Goals as goal

pub put_text-requires : goal.put_text-requires
unfolding no_plan_row
put_text-requires c = text-room c.requires

pub put_blanks-requires : goal.put_blanks-requires
unfolding no_plan_row
put_blanks-requires c = blanks-room (omega arith) c.requires c.put_text.ensures

pub returns : goal.returns
unfolding no_plan_row
returns c = writes-filled (omega arith) c.put_text.ensures c.put_blanks.ensures
