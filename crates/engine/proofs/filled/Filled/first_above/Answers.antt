-- `first_above` meets its contract: the allowances are searched upward. Assumes nothing.
use Prim.Native.Nat.{ℕ}
use mathlib.Core.Path.{refl, sym, ◌∙◌}
use native.Mathlib.Omega.{arith}
use lib.Dec.{ltb}
use Rattle.std.proofs.Common.{rules, tests}
use Rattle.std.proofs.lemmas.Iterator.Adapters.{option_map_id}
use Rattle.std.proofs.lemmas.Iterator.{YieldsList-from_range}
use Rattle.std.proofs.lemmas.Iterator.Search.{find_from_yields_List}
use Rattle.lists.proofs.Iterating.{first_from-find}
use Rattle.engine.specs.Search.{root_best}
use Rattle.engine.proofs.filled.Filled.first_above.Goals as goal

pub returns : goal.returns
returns c =
    let s = c.args.self.now in
    let p = λ (a : ℕ). ltb c.args.floor (root_best s.shape s.cells.now a).value in
    let n = s.shape.budget in
    first_from-find p 0 n n _ (omega arith)
    (sym (option_map_id _) ∙ find_from_yields_List p _ _ _ c.find.ensures.ran (YieldsList-from_range 0 n n refl (omega arith)) (λ x b q k. search (rules, tests)))
