-- `write_if_set` meets its contract: the line of a mark that is set, else none. Assumes nothing.
use mathlib.Core.Path.{sym, ◌∙◌}
use Rattle.lines.specs.declared.SaveForm.TheVariants.{Kinds}
use Rattle.lines.specs.Saved.{mark_change}
use Rattle.lines.proofs.Writes.{writes_none}
use Rattle.lines.proofs.Saves.{text-if, text-if-not}
use Rattle.lines.proofs.writing.Writer.write_if_set.Goals as goal

pub write_mark-requires : goal.write_mark-requires
write_mark-requires c =
    rw (text-if Kinds _ (mark_change c.args.sort c.args.number) (rw c.from.ensures at (sym c.has.ensures ∙ c.if-has.true))) at c.requires

pub returns-then-has : goal.returns-then-has
returns-then-has c =
    rw (text-if Kinds _ (mark_change c.args.sort c.args.number) (rw c.from.ensures at (sym c.has.ensures ∙ c.if-has.true))) c.write_mark.ensures

pub returns-else-has : goal.returns-else-has
returns-else-has c =
    rw (text-if-not Kinds _ (mark_change c.args.sort c.args.number) (rw c.from.ensures at (sym c.has.ensures ∙ c.if-has.false))) (writes_none _)
