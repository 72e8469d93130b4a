-- `TransitionList::is_distinct` meets its contract. Assumes nothing.
use Prim.Native.Nat.{◌+◌}
use mathlib.Core.Path.{◌∙◌}
use mathlib.Core.Bool.{not}
use lib.ListN.{drop}
use Rattle.std.proofs.Common.{rules, tests}
use Rattle.std.proofs.lemmas.Iterator.{YieldsList-from_slice, YieldsList-from_take}
use Rattle.std.proofs.lemmas.Iterator.Consumers.{YieldsList-from_enumerate}
use Rattle.std.proofs.lemmas.Iterator.Search.{all_from_yields_List}
use Rattle.lists.specs.Tests.{some}
use Rattle.lists.specs.Arrays.{rest}
use Rattle.lists.proofs.Places.{is-distinct}
use Rattle.tables.specs.Limits.{same_rule}
use Rattle.tables.specs.Stored.{rules_of}
use Rattle.tables.proofs.rule.TransitionList.is_distinct.Goals as goal

pub returns : goal.returns
unfolding rest
returns c =
    let l = c.args.self.now in
    all_from_yields_List (λ y. not (some (same_rule y.1) (drop (y.0 + 1) (rules_of l)))) _ _ _ c.all.ensures.ran (YieldsList-from_enumerate (YieldsList-from_take l.count (YieldsList-from_slice l.items cc) cc) cc) (λ x b q k. search (rules, tests))
    ∙ is-distinct same_rule (rules_of l)
