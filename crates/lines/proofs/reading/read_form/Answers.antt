-- `read_form` meets its contract: the command that its parts find is that of the grammar. Assumes nothing.
use mathlib.Core.Path.{sym, ◌∙◌}
use native.Mathlib.Omega.{arith}
use lib.ListN.{length-take}
use Rattle.lines.specs.Text.{comma}
use Rattle.lines.specs.Grammar.{table}
use Rattle.lines.proofs.Before.{before-most}
use Rattle.lines.proofs.Rows.{kept, most-few}
use Rattle.lines.proofs.Commands.{read-bits, read-numbers}
use Rattle.lines.proofs.reading.read_form.Goals as goal

pub slice_bounds-word-end : goal.slice_bounds-word-end
slice_bounds-word-end c =
    let s = c.args.line.now in
    omega (arith, c.word_end-end.ensures, before-most comma s, length-take c.word_end-end.result s)

pub overflow_add-end : goal.overflow_add-end
overflow_add-end c = omega (arith, c.word_end-end.ensures, before-most comma c.args.line.now)

pub returns-then-eq : goal.returns-then-eq
returns-then-eq c = c.read_bits.ensures ∙ read-bits _ c.word_end-end.ensures (sym c.eq.ensures ∙ c.if-eq.true)

pub read_numbers-requires : goal.read_numbers-requires
read_numbers-requires c = rw c.most_after.ensures (most-few _ table kept 0 (omega arith))

pub returns-in-Some : goal.returns-in-Some
returns-in-Some c =
    let r = read-numbers _ c.word_end-end.ensures (sym c.eq.ensures ∙ c.if-eq.false) c.most_after.ensures c.read_numbers.ensures in
    c.command_of.ensures ∙ (rw c.in-Some.is at r)

pub returns-in-None : goal.returns-in-None
returns-in-None c =
    let r = read-numbers _ c.word_end-end.ensures (sym c.eq.ensures ∙ c.if-eq.false) c.most_after.ensures c.read_numbers.ensures in
    rw c.in-None.is at r
