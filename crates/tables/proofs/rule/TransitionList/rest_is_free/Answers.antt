-- `TransitionList::rest_is_free` meets its contract. Assumes nothing.
use Rattle.std.proofs.Common.{rules, tests}
use Rattle.std.proofs.lemmas.Iterator.{YieldsList-from_slice}
use Rattle.std.proofs.lemmas.Iterator.Adapters.{YieldsList-from_skip}
use Rattle.lists.proofs.Iterating.{every-from_all}
use Rattle.tables.specs.Stored.{zero_rule}
use Rattle.tables.proofs.rule.TransitionList.rest_is_free.Goals as goal

pub returns : goal.returns
unfolding zero_rule
returns c =
    let l = c.args.self.now in
    every-from_all zero_rule _ _ _ c.all.ensures.ran (YieldsList-from_skip l.count (YieldsList-from_slice l.items cc) cc) (λ x b q k. search (rules, tests))
