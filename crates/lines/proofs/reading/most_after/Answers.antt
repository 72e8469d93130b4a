-- `most_after` meets its contract: the most of the rows with the word. Assumes nothing.
use Rattle.std.proofs.Common.{rules, tests}
use Rattle.std.proofs.lemmas.Iterator.{YieldsList-from_slice}
use Rattle.std.proofs.lemmas.Iterator.Consumers.{fold_from_yields_List}
use Rattle.lines.proofs.Rows.{or_more, most-of-rows}
use Rattle.lines.proofs.reading.most_after.Goals as goal

pub returns : goal.returns
returns c =
    let w = c.args.word.now in
    let h = fold_from_yields_List _ (or_more w) 0 c.fold.result c.fold.ensures.ran (YieldsList-from_slice _ c.iter.ensures.rest) (λ a x b q k. search (rules, tests)) in
    most-of-rows w c.iter.ensures.rest h (search rules)
