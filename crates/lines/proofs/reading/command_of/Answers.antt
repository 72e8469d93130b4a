-- `command_of` meets its contract: the row that is found has the word and so many numbers. Assumes nothing.
use mathlib.Core.Path.{◌∙◌}
use Rattle.std.proofs.Common.{rules, tests}
use Rattle.std.proofs.lemmas.Iterator.{YieldsList-from_slice}
use Rattle.std.proofs.lemmas.Iterator.Search.{find_from_yields_List}
use Rattle.lines.proofs.Rows.{is_row, row-of-rows}
use Rattle.lines.proofs.reading.command_of.Goals as goal

pub returns-in-Some : goal.returns-in-Some
returns-in-Some c =
    let w = c.args.word.now in
    let n = c.args.numbers in
    let h = find_from_yields_List (is_row w n.count) _ _ c.find.result c.find.ensures.ran (YieldsList-from_slice _ c.iter.ensures.rest) (λ x b q k. search (rules, tests)) in
    c.command.ensures ∙ row-of-rows w n c.iter.ensures.rest (rw c.in-Some.is at h) (search rules)

pub returns-in-None : goal.returns-in-None
returns-in-None c =
    let w = c.args.word.now in
    let n = c.args.numbers in
    let h = find_from_yields_List (is_row w n.count) _ _ c.find.result c.find.ensures.ran (YieldsList-from_slice _ c.iter.ensures.rest) (λ x b q k. search (rules, tests)) in
    row-of-rows w n c.iter.ensures.rest (rw c.in-None.is at h) (search rules)
