-- `write_marks` meets its contract: a number a turn. Assumes nothing.
use Prim.Native.Nat.{ℕ, ◌+◌}
use mathlib.Core.List.{List}
use native.Mathlib.Omega.{arith}
use Rattle.marks.specs.declared.Marks.{Marks}
use Rattle.tables.specs.declared.rule.Sort.{Sort}
use Rattle.lines.specs.declared.SaveForm.TheVariants.{Kinds}
use Rattle.lines.specs.Saved.{mark_if_set, mark_changes, changes_text}
use Rattle.lines.proofs.Writes.{writes_none, turn_room, turn_more, turn_all}
use Rattle.lines.proofs.Saves.{mark-next}
use Rattle.lines.proofs.writing.Writer.write_marks.Goals as goal

-- the text of the marks up to number i, and what the next adds to it
abbrev text : Sort → Marks → ℕ → List ℕ
text k m i = changes_text Kinds (mark_changes k m i)

abbrev part : Sort → Marks → ℕ → List ℕ
part k m i = changes_text Kinds (mark_if_set k m (i + 1))

pub loop-i-init : goal.loop-i-init
unfolding mark_changes changes_text
loop-i-init c = writes_none _

pub write_if_set-requires : goal.write_if_set-requires
write_if_set-requires c =
    let a = c.args in
    turn_room (text a.sort a.marks) (part a.sort a.marks) a.size (λ i h. mark-next Kinds a.sort a.marks i) c.loop-i.i c.loop-i-test.true c.loop-i.invariant c.requires

pub loop-i-preserved : goal.loop-i-preserved
loop-i-preserved c =
    let a = c.args in
    turn_more (text a.sort a.marks) (part a.sort a.marks) a.size (λ i h. mark-next Kinds a.sort a.marks i) c.loop-i.i c.loop-i-test.true c.loop-i.invariant c.write_if_set.ensures

pub returns : goal.returns
returns c =
    let a = c.args in
    turn_all (text a.sort a.marks) (part a.sort a.marks) a.size (λ i h. mark-next Kinds a.sort a.marks i) c.loop-i.i (omega arith) c.loop-i-test.false c.loop-i.invariant
