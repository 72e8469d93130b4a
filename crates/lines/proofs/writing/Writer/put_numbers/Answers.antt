-- `put_numbers` meets its contract: a comma and a number a turn. Assumes nothing.
use Prim.Native.Nat.{ℕ, ◌≤◌}
use mathlib.Core.Path.{◌≡◌}
use mathlib.Core.List.{List, [], ◌∷◌, ◌++◌}
use native.Mathlib.Omega.{arith}
use lib.ListN.{length, take, get_or}
use lib.Seq.{take_all}
use Rattle.lines.specs.Text.{comma, decimal}
use Rattle.lines.specs.Written.{parted, line}
use Rattle.lines.proofs.Writes.{writes_none, writes_then, room_first, room_then, turn_room, turn_more}
use Rattle.lines.proofs.Saves.{line-next}
use Rattle.lines.proofs.writing.Writer.put_numbers.Goals as goal

-- the text of the first i numbers, and what number i adds to it
abbrev text : List ℕ → ℕ → List ℕ
text v i = line [] (take i v)

abbrev part : List ℕ → ℕ → List ℕ
part v i = (comma ∷ []) ++ decimal (get_or v i 0)

whole : (v : List ℕ) → take (length v) v ≡ v
whole v = take_all (length v) v (omega arith)

pub loop-n-init : goal.loop-n-init
unfolding parted
loop-n-init c = writes_none _

pub put-requires : goal.put-requires
put-requires c =
    let v = c.args.numbers.now in
    room_first (decimal (get_or v c.loop-n.n-index 0)) (turn_room (text v) (part v) (length v) (line-next [] v) c.loop-n.n-index c.loop-n-test.true c.loop-n.invariant (rw (whole v) c.requires))

pub put_decimal-requires : goal.put_decimal-requires
put_decimal-requires c =
    let v = c.args.numbers.now in
    room_then c.put.ensures (turn_room (text v) (part v) (length v) (line-next [] v) c.loop-n.n-index c.loop-n-test.true c.loop-n.invariant (rw (whole v) c.requires))

pub loop-n-preserved : goal.loop-n-preserved
loop-n-preserved c =
    let v = c.args.numbers.now in
    turn_more (text v) (part v) (length v) (line-next [] v) c.loop-n.n-index c.loop-n-test.true c.loop-n.invariant (writes_then c.put.ensures c.put_decimal.ensures)

pub returns : goal.returns
returns c =
    let h : length c.args.numbers.now ≤ c.loop-n.n-index = c.loop-n-test.false in
    rw (take_all c.loop-n.n-index c.args.numbers.now h) at c.loop-n.invariant
