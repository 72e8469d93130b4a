-- `LoadList::load` meets its contract. Assumes nothing.
use Prim.Native.Nat.{◌≤◌}
use borrow.Author.Rules.{rules}
use native.Mathlib.Omega.{arith}
use Rattle.std.proofs.lemmas.Grind.{common_steps}
use Rattle.lists.proofs.Arrays.{of_map}
use Rattle.tables.specs.Limits.{max_loads}
use Rattle.tables.proofs.Changes.{within_not, load-in, load-out}
use Rattle.tables.proofs.load.LoadList.load.Goals as goal

pub returns-then-not-contains : goal.returns-then-not-contains
returns-then-not-contains c =
    load-out max_loads _ _ (search (rules, of_map)) (within_not max_loads c.args.number (λ p q. grind (arith, common_steps)))

pub returns : goal.returns
returns c =
    let l : 1 ≤ c.args.number = grind (arith, common_steps) in
    let m : c.args.number ≤ max_loads = grind (arith, common_steps) in
    load-in max_loads _ _ (search (rules, of_map)) (λ e. omega arith) m
