-- The problems of tables that keep their limits are lawful. Assumes nothing.
use Prim.Native.Nat.{ℕ, suc, ◌≤◌, ◌<◌, zero-le}
use mathlib.Core.Path.{◌≡◌}
use mathlib.Core.Bool.{true}
use Rattle.std.specs.Prelude.{Option}
use native.Mathlib.Omega.{arith}
use lib.ListN.{length, get_or}
use Rattle.lists.proofs.Arrays.{at_every}
use Rattle.marks.specs.declared.LoadSet.{LoadSet}
use Rattle.tables.specs.declared.rule.RuleRange.{RuleRange}
use Rattle.tables.specs.declared.rule.Sort.TheVariants as sort
use Rattle.tables.specs.declared.rule.TransitionList.{TransitionList}
use Rattle.tables.specs.declared.load.Load.{Load}
use Rattle.tables.specs.declared.load.LoadList.{LoadList}
use Rattle.tables.specs.declared.tables.StoredTables.{StoredTables}
use Rattle.tables.specs.Tables.{no_rule, no_load}
use Rattle.tables.specs.Limits.{max_rules, max_loads, max_worth, rule_range}
use Rattle.tables.specs.Lawful.{RuleFits, LoadFits}
use Rattle.tables.specs.Stored.{rules_of, loads_of, places_of, book_of, tables_of, Lengths, keeps_limits}
use Rattle.tables.proofs.Kept.{kept}
use Rattle.meaning.proofs.Ordered.{loads-ordered}
use Rattle.meaning.specs.Cell.{power_limit}
use Rattle.cells.specs.Problem.{RulesIn, LoadsIn, Lawful}
use Rattle.cells.proofs.Tables.{rule-at, rules-length}

-- rules of either sort
rules-in : (m : RuleRange) (l : TransitionList) → length l.items ≡ max_rules → l.count ≤ max_rules
    → ((j : ℕ) → j < length (rules_of l) → RuleFits m (get_or (rules_of l) j no_rule)) → RulesIn l m.low m.high m.to
rules-in m l full few h = record { few = few; full = full; label = λ j k. (at j k).gives; to = λ j k. (at j k).leads }
  where
    at : (j : ℕ) → j < l.count → RuleFits m (get_or l.items j no_rule)
    at j k = rw (rule-at l j k) at (h j (omega (arith, rules-length l (omega arith))))

-- loads: what holds of each, and of an unused place, holds at every place
loads-in : (l : LoadList) → places_of l ≡ max_loads → ((j : ℕ) → j < length (loads_of l) → LoadFits (suc j) (get_or (loads_of l) j no_load)) → LoadsIn l
loads-in l full h = record {
  full = full;
  ordered = loads-ordered (loads_of l) h;
  parents = at_every (λ j (x : Load). x.parent ≤ j) no_load (loads_of l) (λ j. zero-le) (λ j k. omega (arith, (h j k).parent));
  powers = at_every (λ j (x : Load). x.power < power_limit) no_load (loads_of l) (λ j. omega arith) (λ j k. omega (arith, (h j k).power));
  worths = at_every (λ j (x : Load). x.worth ≤ max_worth) no_load (loads_of l) (λ j. zero-le) (λ j k. (h j k).worth);
}

module _ (s : StoredTables) (h : keeps_limits s ≡ true) (len : Lengths s) (full : places_of s.loads ≡ max_loads) where
  -- at the tables' budget or less
  pub lawful : (b : ℕ) → b ≤ s.budget → (set : Option LoadSet)
      → Lawful (record { tables = record { book = s.book; loads = s.loads; budget = b }; set = set })
  unfolding tables_of book_of
  lawful b less set =
      let k = kept s h in
      let p = k.lawful in
      let m = rule_range s.book.states s.book.stages in
      record {
        sane = record { loads = omega (arith, k.loads); states = p.states; stages = p.stages; budget = omega (arith, p.budget) };
        staged = p.staged;
        loads = loads-in s.loads full p.load;
        rules = rules-in (m sort.Load) s.book.load_rules (len.rules sort.Load) (k.rules sort.Load) (p.rule sort.Load);
        rows = rules-in (m sort.Row) s.book.row_rules (len.rules sort.Row) (k.rules sort.Row) (p.rule sort.Row);
      }
