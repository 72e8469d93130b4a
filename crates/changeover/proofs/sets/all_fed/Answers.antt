-- `all_fed` meets its contract. Assumes nothing.
use Prim.Native.Nat.{◌+◌}
use mathlib.Core.Path.{◌∙◌}
use native.Mathlib.Omega.{arith}
use Rattle.std.proofs.Common.{rules, tests}
use Rattle.std.proofs.lemmas.Iterator.{YieldsList-from_slice, YieldsList-from_take}
use Rattle.std.proofs.lemmas.Iterator.Consumers.{YieldsList-from_enumerate}
use Rattle.std.proofs.lemmas.Iterator.Search.{all_from_yields_List}
use Rattle.lists.proofs.Iterating.{from-list_all}
use Rattle.marks.specs.Sets.{has_load}
use Rattle.tables.specs.Stored.{loads_of}
use Rattle.changeover.specs.Sets.{is_fed, all_fed}
use Rattle.changeover.proofs.sets.all_fed.Goals as goal

pub returns : goal.returns
unfolding all_fed
returns c =
    let l = c.args.loads in
    let fed = is_fed (has_load c.args.set) in
    all_from_yields_List (λ y. fed (y.0 + 1) y.1) _ _ _ c.all.ensures.ran (YieldsList-from_enumerate (YieldsList-from_take l.count (YieldsList-from_slice l.items cc) cc) cc) (λ x b q k. search (rules, tests))
    ∙ from-list_all fed 0 1 1 (loads_of l) (omega arith)
