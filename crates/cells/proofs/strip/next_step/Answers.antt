-- `next_step` meets its contract: strides after strides are passed over, and at last one by one. Assumes nothing.
use mathlib.Core.Path.{◌≡◌}
use Rattle.std.proofs.Common.{rules, tests}
use Rattle.std.proofs.lemmas.Iterator.{first_from_Range}
use Rattle.cells.specs.Work.{cells_in}
use Rattle.cells.proofs.Shares.{passed_then, step-found}
use Rattle.cells.proofs.strip.next_step.Goals as goal

pub returns : goal.returns
returns c =
    let s = c.args in
    let f = cells_in s.cells.now in
    step-found f s.last _ _ (passed_then c.passed-far.ensures.over c.passed-near.ensures.over) c.find.result
    (first_from_Range _ _ _ c.find.result (λ a. f a ≡ s.last → ⊥) (λ a. f a ≡ s.last) c.find.ensures.ran
    (λ x q k. search (rules, tests)) (λ x q k. search (rules, tests)))
