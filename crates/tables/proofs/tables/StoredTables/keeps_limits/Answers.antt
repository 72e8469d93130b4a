-- `StoredTables::keeps_limits` meets its contract: the lengths of the arrays come from the type. Assumes nothing.
use mathlib.Core.Path.{◌≡◌}
use native.Mathlib.Omega.{arith}
use borrow.Author.Rules.{rules}
use Rattle.std.proofs.lemmas.Grind.{common_steps}
use Rattle.lists.proofs.Arrays.{of_map}
use Rattle.tables.specs.declared.rule.Sort.TheVariants as sort
use Rattle.tables.specs.Limits.{budget_in, max_loads}
use Rattle.tables.specs.Stored.{places_of, keeps_limits, Lengths}
use Rattle.tables.proofs.Stored.{keeps-exactly}
use Rattle.tables.proofs.Places.{tables_placed}
use Rattle.tables.proofs.tables.StoredTables.keeps_limits.Goals as goal

pub returns-then-keeps_limits-2 : goal.returns-then-keeps_limits-2
returns-then-keeps_limits-2 c =
    let s = c.args.self in
    let lengths : Lengths s = record { rules = elim [ sort.Load ↦ search (rules, of_map) | sort.Row ↦ search (rules, of_map) ] } in
    let placed : places_of s.loads ≡ max_loads = search (rules, of_map) in
    let most = tables_placed s (omega arith) in
    let e : budget_in s.budget ≡ keeps_limits s = grind (arith, common_steps, most) in
    record { equation = e; exactly = rw e (keeps-exactly s lengths max_loads placed) }

pub returns-else-keeps_limits-2 : goal.returns-else-keeps_limits-2
returns-else-keeps_limits-2 c =
    let s = c.args.self in
    let lengths : Lengths s = record { rules = elim [ sort.Load ↦ search (rules, of_map) | sort.Row ↦ search (rules, of_map) ] } in
    let placed : places_of s.loads ≡ max_loads = search (rules, of_map) in
    let most = tables_placed s (omega arith) in
    let e : c.if-keeps_limits.value ≡ keeps_limits s = grind (arith, common_steps, most) in
    record { equation = e; exactly = rw e (keeps-exactly s lengths max_loads placed) }
