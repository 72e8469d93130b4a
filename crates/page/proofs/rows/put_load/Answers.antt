-- `put_load` meets its contract. Assumes nothing.
use mathlib.Core.List.{◌∷◌, ◌++◌, append_assoc}
use native.Mathlib.Omega.{arith}
use Rattle.lists.specs.Argmax.{guard}
use Rattle.lines.proofs.Writes.{writes_then, room_first, room_then}
use Rattle.page.specs.Rows.{number_digits, blank, digits, on_off, watts, load_row}
use Rattle.page.proofs.RowText.{load-bytes, text-room, blanks-room, writes-filled}
use Rattle.page.proofs.rows.put_load.Goals as goal

pub put_digits-requires : goal.put_digits-requires
unfolding load_row
put_digits-requires c = room_first _ (rw append_assoc at (text-room c.requires.0))

pub put-requires : goal.put-requires
unfolding load_row
put-requires c =
    let m = on_off (guard c.args.on 1) in
    let p = watts c.args.power in
    room_first (m ++ p) (room_then {b = blank ∷ (m ++ p)} c.put_digits.ensures (rw append_assoc at (text-room c.requires.0)))

pub put_mark-requires : goal.put_mark-requires
unfolding load_row
put_mark-requires c =
    let m = on_off (guard c.args.on 1) in
    let p = watts c.args.power in
    room_first p (room_then {b = m ++ p} c.put.ensures (room_then {b = blank ∷ (m ++ p)} c.put_digits.ensures (rw append_assoc at (text-room c.requires.0))))

pub put_watts-requires : goal.put_watts-requires
unfolding load_row
put_watts-requires c =
    let m = on_off (guard c.args.on 1) in
    let p = watts c.args.power in
    rw c.from.ensures
    (room_then {b = p} c.put_mark.ensures (room_then {b = m ++ p} c.put.ensures (room_then {b = blank ∷ (m ++ p)} c.put_digits.ensures (rw append_assoc at (text-room c.requires.0)))))

pub put_blanks-requires : goal.put_blanks-requires
unfolding load_row
put_blanks-requires c =
    let m = on_off (guard c.args.on 1) in
    blanks-room {v = c.put_watts.new.w} {s = digits number_digits c.args.number ++ (blank ∷ m) ++ watts c.args.power} (omega (arith, load-bytes c.args.number (guard c.args.on 1) c.args.power)) c.requires.0
    (rw append_assoc (writes_then c.put_digits.ensures (writes_then c.put.ensures (writes_then c.put_mark.ensures (rw c.from.ensures at c.put_watts.ensures)))))

pub returns : goal.returns
unfolding load_row
returns c =
    let m = on_off (guard c.args.on 1) in
    writes-filled {s = digits number_digits c.args.number ++ (blank ∷ m) ++ watts c.args.power} (omega (arith, load-bytes c.args.number (guard c.args.on 1) c.args.power))
    (rw append_assoc (writes_then c.put_digits.ensures (writes_then c.put.ensures (writes_then c.put_mark.ensures (rw c.from.ensures at c.put_watts.ensures))))) c.put_blanks.ensures
