-- `LoadList::has_kinds` meets its contract. Assumes nothing.
use Rattle.std.proofs.Common.{rules, tests}
use Rattle.std.proofs.lemmas.Iterator.{YieldsList-from_slice, YieldsList-from_take}
use Rattle.lists.proofs.Iterating.{some-from_any}
use Rattle.tables.specs.Kinds.{load_kinded}
use Rattle.tables.proofs.load.LoadList.has_kinds.Goals as goal

pub returns : goal.returns
unfolding load_kinded
returns c =
    some-from_any load_kinded _ _ _ c.any.ensures.ran (YieldsList-from_take c.args.self.count (YieldsList-from_slice c.args.self.items cc) cc) (λ x b q k. search (rules, tests))
