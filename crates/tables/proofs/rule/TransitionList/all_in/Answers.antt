-- `TransitionList::all_in` meets its contract. Assumes nothing.
use Rattle.std.proofs.Common.{rules, tests}
use Rattle.std.proofs.lemmas.Iterator.{YieldsList-from_slice, YieldsList-from_take}
use Rattle.lists.proofs.Iterating.{every-from_all}
use Rattle.tables.specs.Limits.{rule_in}
use Rattle.tables.proofs.rule.TransitionList.all_in.Goals as goal

pub returns : goal.returns
returns c =
    let l = c.args.self.now in
    every-from_all (rule_in c.args.range) _ _ _ c.all.ensures.ran (YieldsList-from_take l.count (YieldsList-from_slice l.items cc) cc) (λ x b q k. search (rules, tests))
