-- `next_rule` meets its contract: the closure tells of each rule whether it begins there. Assumes nothing.
use Rattle.std.proofs.Common.{rules}
use Rattle.std.proofs.lemmas.Iterator.{first_from_Range}
use borrow.Author.Tests.{tests}
use Rattle.cells.specs.Outline.{Begins}
use Rattle.cells.proofs.outline.next_rule.Goals as goal

pub returns : goal.returns
returns c =
    let s = c.args in
    first_from_Range _ _ _ c.find.result (Begins s.o.now s.r) (λ i. Begins s.o.now s.r i → ⊥) c.find.ensures.ran
    (λ x q k. search (rules, tests)) (λ x q k. search (rules, tests))
