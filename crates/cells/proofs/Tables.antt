-- The stored tables on paper: a rule and a load of a list are those at their places in the array, and in range. Assumes nothing.
use Prim.Native.Nat.{ℕ, zero, suc, ◌-◌, ◌≤◌, ◌<◌}
use mathlib.Core.Path.{◌≡◌, sym}
use native.Mathlib.Omega.{arith}
use lib.ListN.{length, get_or}
use lib.Seq.{get_or-take, length-take-le}
use Rattle.tables.specs.declared.rule.TransitionList.{TransitionList}
use Rattle.tables.specs.declared.load.LoadList.{LoadList}
use Rattle.tables.specs.Tables.{no_rule, no_load}
use Rattle.tables.specs.Stored.{rules_of, loads_of}
use Rattle.meaning.specs.Runs.{rule_at}
use Rattle.meaning.specs.Cells.{load_at}
use Rattle.cells.specs.Problem.{RulesIn}

pub rule-at : (l : TransitionList) (j : ℕ) → j < l.count → rule_at (rules_of l) j ≡ get_or l.items j no_rule
rule-at l j h = get_or-take l.count l.items j no_rule h

pub rules-length : (l : TransitionList) → l.count ≤ length l.items → length (rules_of l) ≡ l.count
rules-length l h = length-take-le l.count l.items h

pub load-at : (l : LoadList) (j : ℕ) → j < l.count → get_or (loads_of l) j no_load ≡ get_or l.items j no_load
load-at l j h = get_or-take l.count l.items j no_load h

pub loads-length : (l : LoadList) → l.count ≤ length l.items → length (loads_of l) ≡ l.count
loads-length l h = length-take-le l.count l.items h

-- load k, as its place in the array holds it
pub load_stored : (l : LoadList) (k : ℕ) → 0 < k → k ≤ l.count → get_or l.items (k - 1) no_load ≡ load_at (loads_of l) k
load_stored l zero h m = absurd (omega arith)
load_stored l (suc j) h m = let e : suc j - 1 ≡ j = omega arith in rw e (sym (load-at l j m))

-- the numbers of the rules on paper are in range
module _ {l : TransitionList} {low high g : ℕ} (ok : RulesIn l low high g) where
  below : (j : ℕ) → j < length (rules_of l) → j < l.count
  below j h = omega (arith, rules-length l (omega (arith, ok.few, ok.full)))

  pub rule-to : (j : ℕ) → j < length (rules_of l) → (0 < (rule_at (rules_of l) j).to) × ((rule_at (rules_of l) j).to ≤ g)
  rule-to j h = rw (rule-at l j (below j h)) (ok.to j (below j h))

  pub rule-label : (j : ℕ) → j < length (rules_of l) → (low ≤ (rule_at (rules_of l) j).label) × ((rule_at (rules_of l) j).label ≤ high)
  rule-label j h = rw (rule-at l j (below j h)) (ok.label j (below j h))
