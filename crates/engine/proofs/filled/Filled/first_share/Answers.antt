-- `first_share` meets its contract: the allowances are searched upward. Assumes nothing.
use Rattle.std.proofs.Common.{◌≡◌, rules, tests}
use Rattle.std.proofs.lemmas.Iterator.{first_from_Range}
use Rattle.cells.specs.Stretch.{leading}
use Rattle.engine.specs.Search.{split_at}
use Rattle.engine.proofs.Search.{first-at}
use Rattle.engine.proofs.filled.Filled.first_share.Goals as goal

pub returns : goal.returns
returns c =
    let s = c.args in
    let f = split_at s.self.now.shape s.self.now.cells.now s.t s.c (leading s.lead) in
    first-at f s.goal _ _
    (first_from_Range _ _ _ _ (λ a. f a ≡ s.goal) (λ a. f a ≡ s.goal → ⊥) c.find.ensures.ran
    (λ x q k. search (rules, tests))
    (λ x q k. (search rules, search (rules, tests))))
