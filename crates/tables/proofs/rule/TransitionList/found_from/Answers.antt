-- `TransitionList::found_from` meets its contract. Assumes nothing.
use mathlib.Core.Path.{◌≡◌, ◌∙◌}
use lib.ListN.{length}
use Rattle.std.proofs.Common.{rules, tests}
use Rattle.std.proofs.lemmas.Iterator.{YieldsList-from_slice}
use Rattle.lists.proofs.Arrays.{rest-held, of_map}
use Rattle.lists.proofs.Iterating.{some-from_fold}
use Rattle.tables.specs.Limits.{same_rule, max_rules}
use Rattle.tables.proofs.rule.TransitionList.found_from.Goals as goal

pub returns : goal.returns
returns c =
    let a = c.args in
    let l = a.self.now in
    let long : length l.items ≡ max_rules = search (rules, of_map) in
    let part = rest-held l.items l.count a.start c.min-end.result c.min.result (rw long c.min-end.ensures) c.min.ensures in
    some-from_fold (same_rule a.t) _ c.fold.result c.fold.ensures.ran (YieldsList-from_slice _ (c.iter.ensures.rest ∙ part)) (λ b x r q k. search (rules, tests))
