-- `call` meets its contract: no answer is longer than the output. Assumes nothing.
use mathlib.Core.Path.{◌≡◌}
use borrow.Author.Rules.{rules}
use native.Mathlib.Omega.{arith}
use lib.ListN.{length}
use Rattle.tables.specs.declared.rule.Sort.TheVariants as sort
use Rattle.tables.specs.Limits.{max_loads}
use Rattle.tables.specs.Stored.{places_of, Lengths}
use Rattle.calls.specs.State.{Sized}
use Rattle.calls.specs.Rows.{most_bytes}
use Rattle.calls.proofs.Rows.{line-right}
use Rattle.planner.specs.Planner.{held, state_in}
use Rattle.planner.proofs.Demands.{demand1}
use Rattle.lists.proofs.Arrays.{of_map}
use Rattle.load_planner.proofs.call.Goals as goal

pub returns-clause-fits : goal.returns-clause-fits
returns-clause-fits c =
    let e = c.args.planner in
    let lengths : Lengths e.tables = record { rules = elim [ sort.Load ↦ search (rules, of_map) | sort.Row ↦ search (rules, of_map) ] } in
    let placed : places_of e.tables.loads ≡ max_loads = search (rules, of_map) in
    let sized : Sized max_loads (held e) = record { tables = lengths; places = placed; states = search rules; load_rules = search rules; row_rules = search rules } in
    let size : length c.call.new.out ≡ most_bytes = search rules in
    omega (arith, size, (demand1 e sized _ _ c.call.ensures).fits, (line-right (state_in e) 0 c.args.line.now).most)
