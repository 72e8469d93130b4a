-- `LoadList::has_children` meets its contract. Assumes nothing.
use Rattle.std.proofs.Common.{rules, tests}
use Rattle.std.proofs.lemmas.Iterator.{YieldsList-from_slice, YieldsList-from_take}
use Rattle.lists.proofs.Iterating.{some-from_any}
use Rattle.tables.specs.Changes.{is_child, has_children}
use Rattle.tables.proofs.load.LoadList.has_children.Goals as goal

pub returns : goal.returns
unfolding has_children
returns c =
    some-from_any (is_child c.args.number) _ _ _ c.any.ensures.ran (YieldsList-from_take c.args.self.count (YieldsList-from_slice c.args.self.items cc) cc) (λ x b q k. search (rules, tests))
