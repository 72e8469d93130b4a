-- `write_loads` meets its contract. Assumes nothing.
use Prim.Native.Nat.{ℕ}
use mathlib.Core.List.{List}
use native.Mathlib.Omega.{arith}
use Rattle.lines.specs.Answers.{entry_line, entry_lines}
use Rattle.lines.proofs.Writes.{turn_room, turn_more, turn_all}
use Rattle.runs.specs.declared.run.Run.{Run}
use Rattle.runs.specs.Runs.{entry_at, entries_to}
use Rattle.planner.proofs.RunLines.{lines_none, lines_more}
use Rattle.planner.proofs.answers.write_loads.Goals as goal

-- the lines of the first i loads, and what the next adds to them
abbrev text : Run → ℕ → List ℕ
text r i = entry_lines (entries_to r i)

abbrev part : Run → ℕ → List ℕ
part r i = entry_line (entry_at r i)

pub loop-i-init : goal.loop-i-init
loop-i-init c = lines_none _ _

pub write_entry-requires : goal.write_entry-requires
write_entry-requires c =
    let r = c.args.run in
    rw c.entry.ensures (turn_room (text r) (part r) c.args.n (λ i h. lines_more r i) c.loop-i.i c.loop-i-test.true c.loop-i.invariant c.requires.1)

pub loop-i-preserved : goal.loop-i-preserved
loop-i-preserved c =
    let r = c.args.run in
    turn_more (text r) (part r) c.args.n (λ i h. lines_more r i) c.loop-i.i c.loop-i-test.true c.loop-i.invariant (rw c.entry.ensures at c.write_entry.ensures)

pub returns : goal.returns
returns c =
    let r = c.args.run in
    turn_all (text r) (part r) c.args.n (λ i h. lines_more r i) c.loop-i.i (omega arith) c.loop-i-test.false c.loop-i.invariant
