-- The limits of "Loads and book" of paper 01 as facts, a field a limit: what tables that keep them give to those who use them.
-- proofs/Lawful proves them from the test of the limits, once for all who use them. Assumes nothing.
use Rattle.std.specs.Prelude.{ℕ, suc, ◌≤◌, ◌<◌, length, get_or}
use Rattle.tables.specs.declared.rule.RuleRange.{RuleRange}
use Rattle.tables.specs.Tables.{Sort, Transition, Load, Tables, no_rule, no_load, rules_for}
use Rattle.tables.specs.Limits.{max_states, range_for, max_rules, max_power, max_worth, max_kind, max_budget, most_places}

-- the three numbers of a rule, and its kind
pub record RuleFits (m : RuleRange) (r : Transition) : Type 0 where
  pub begins : (1 ≤ r.from) × (r.from ≤ m.from)
  pub gives : (m.low ≤ r.label) × (r.label ≤ m.high)
  pub leads : (1 ≤ r.to) × (r.to ≤ m.to)
  pub kind : r.kind ≤ m.kind

-- the parent, the figures and the kind of load k
pub record LoadFits (k : ℕ) (l : Load) : Type 0 where
  pub parent : l.parent < k
  pub later : 1 < k → 0 < l.parent
  pub power : l.power ≤ max_power
  pub worth : l.worth ≤ max_worth
  pub kind : l.kind ≤ max_kind

pub record Lawful (t : Tables) : Type 0 where
  pub states : t.book.states ≤ max_states
  pub stages : t.book.stages ≤ max_states
  pub staged : 0 < t.book.states → 0 < t.book.stages
  pub rules : (k : Sort) → length (rules_for t.book k) ≤ max_rules
  pub rule : (k : Sort) (j : ℕ) → j < length (rules_for t.book k) → RuleFits (range_for t.book k) (get_or (rules_for t.book k) j no_rule)
  pub loads : length t.loads ≤ t.places
  pub load : (j : ℕ) → j < length t.loads → LoadFits (suc j) (get_or t.loads j no_load)
  pub budget : t.budget ≤ max_budget
  pub places : t.places ≤ most_places
