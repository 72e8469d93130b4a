-- The outline of a problem: what a search reads of the tables, looked up once and lent as numbers.
-- It stands for "a row is to be worked out from the few figures it needs, with no whole planner copied for each child" of request Seven of
-- paper 02. Assumes nothing.
use Rattle.std.specs.Prelude.{ℕ, ◌+◌, ◌-◌, ◌*◌, ◌≤◌, ◌<◌, ◌≡◌, Bool, true, Option, MatchOption, List, eqb, leb, length, get_or, set}
use Rattle.lists.specs.Tests.{pick}
use Rattle.lists.specs.Argmax.{guard, Greatest, argmax}
use Rattle.tables.specs.declared.rule.Transition.{Transition}
use Rattle.tables.specs.declared.rule.TransitionList.{TransitionList}
use Rattle.tables.specs.Tables.{no_rule}
use Rattle.tables.specs.Limits.{max_loads, max_rules, max_states, max_worth}
use Rattle.meaning.specs.Forest.{after}
use Rattle.meaning.specs.Cell.{power_limit}
use Rattle.meaning.specs.Cells.{load_at, first_child, next_sibling}
use Rattle.cells.specs.declared.problem.Problem.{Problem}
use Rattle.cells.specs.declared.problem.Shape.{Shape}
use Rattle.cells.specs.declared.problem.StoredItem.{StoredItem}
use Rattle.cells.specs.declared.outline.Lead.{Lead}
use Rattle.cells.specs.declared.outline.Joint.{Joint}
use Rattle.cells.specs.declared.outline.Rules.{Rules}
use Rattle.cells.specs.Problem.{loads_for, items_for, item_of, shape_of, Lawful}

-- ---- the numbers of a load: its first child, its next sibling, its power, its worth, its mark and its kind; load 0 is the parent of the root
abbrev pub load_numbers : ℕ
load_numbers = 6

abbrev pub load_place : ℕ → ℕ
load_place k = load_numbers * k

abbrev pub child_in : List ℕ → ℕ → ℕ
child_in o k = get_or o (load_place k) 0

abbrev pub sibling_in : List ℕ → ℕ → ℕ
sibling_in o k = get_or o (load_place k + 1) 0

abbrev pub item_in : List ℕ → ℕ → StoredItem
item_in o k = record { power = get_or o (load_place k + 2) 0; worth = get_or o (load_place k + 3) 0; mark = get_or o (load_place k + 4) 0; kind = get_or o (load_place k + 5) 0 }

-- ---- the load rules, the row rules, four numbers each, and how many there are of either
abbrev pub rule_numbers : ℕ
rule_numbers = 4

abbrev pub load_rules_at : ℕ
load_rules_at = load_numbers * (max_loads + 1)

abbrev pub row_rules_at : ℕ
row_rules_at = load_rules_at + rule_numbers * max_rules

abbrev pub counts_at : ℕ
counts_at = row_rules_at + rule_numbers * max_rules

abbrev pub outline_size : ℕ
outline_size = counts_at + 2

-- rule j of those that stand from a place on
abbrev pub rule_in : List ℕ → (at j : ℕ) → Transition
rule_in o at j =
    let i = at + rule_numbers * j in record { from = get_or o i 0; label = get_or o (i + 1) 0; to = get_or o (i + 2) 0; kind = get_or o (i + 3) 0 }

-- what it leads to
abbrev pub lead_in : List ℕ → (at j : ℕ) → Lead
lead_in o at j = let r = rule_in o at j in record { label = r.label; stage = r.to; kind = r.kind }

-- ---- what is looked up for load k and state or stage x, states first
abbrev pub of_row : Shape → ℕ → Bool
of_row sh x = leb sh.states x

abbrev pub rules_in : Shape → List ℕ → (x : ℕ) → Rules
rules_in sh o x = pick (of_row sh x)
    (record { at = row_rules_at; count = get_or o (counts_at + 1) 0; from = x - sh.states + 1 })
    (record { at = load_rules_at; count = get_or o counts_at 0; from = x + 1 })

abbrev pub joint_in : Shape → List ℕ → (k x : ℕ) → Joint
joint_in sh o k x = record { branch = of_row sh x; load = k; item = item_in o k; rest = pick (of_row sh x) (sibling_in o k) (child_in o k) }

-- the best of the rules that begin where r says, by what each reaches
abbrev pub best_in : List ℕ → Rules → (Transition → ℕ) → Greatest
best_in o r reach = argmax (λ j. guard (eqb (rule_in o r.at j).from r.from) (reach (rule_in o r.at j))) r.count

-- rule i begins where r says
abbrev pub Begins : List ℕ → Rules → (i : ℕ) → Type 0
Begins o r i = (rule_in o r.at i).from ≡ r.from

-- no rule from rule j on, and before rule i, begins there
abbrev pub NoneBegins : List ℕ → Rules → (j i : ℕ) → Type 0
NoneBegins o r j i = (m : ℕ) → j ≤ m → m < i → Begins o r m → ⊥

-- the next rule from rule j on that begins where r says, or that there is none
abbrev pub NextRule : List ℕ → Rules → (j : ℕ) → Option ℕ → Type 0
NextRule o r j found = MatchOption found (NoneBegins o r j r.count) (λ i. (j ≤ i) × (i < r.count) × Begins o r i × NoneBegins o r j i)

-- ---- the numbers are in range
pub record JointFits (sh : Shape) (t : Joint) : Type 0 where
  pub low : 0 < t.load
  pub high : t.load ≤ sh.loads
  pub rest : t.rest ≤ sh.loads
  pub power : t.item.power < power_limit
  pub worth : t.item.worth ≤ max_worth

-- a rule leads to a stage; a row rule's label is a state
pub record RuleFits (sh : Shape) (of_row : Bool) (r : Transition) : Type 0 where
  pub low : 0 < r.to
  pub high : r.to ≤ sh.stages
  pub label : r.label ≤ max_states
  pub state : of_row ≡ true → (0 < r.label) × (r.label ≤ sh.states)

pub record RulesFit (sh : Shape) (o : List ℕ) (of_row : Bool) (r : Rules) : Type 0 where
  pub few : r.count ≤ max_rules
  pub room : r.at + rule_numbers * max_rules ≤ length o
  pub each : (j : ℕ) → j < r.count → RuleFits sh of_row (rule_in o r.at j)

pub record OutlineFits (sh : Shape) (o : List ℕ) : Type 0 where
  pub long : length o ≡ outline_size
  pub joints : (k x : ℕ) → 0 < k → k ≤ sh.loads → JointFits sh (joint_in sh o k x)
  pub rules : (x : ℕ) → RulesFit sh o (of_row sh x) (rules_in sh o x)

-- ---- how it is written
-- load k, below load q, with what counts of it: the child of q till now comes after it
abbrev pub with_load : List ℕ → (k q : ℕ) → StoredItem → List ℕ
with_load o k q i =
    set (set (set (set (set (set o (load_place k + 1) (child_in o q)) (load_place k + 2) i.power) (load_place k + 3) i.worth) (load_place k + 4) i.mark) (load_place k + 5) i.kind) (load_place q) k

abbrev pub with_rule : List ℕ → (at : ℕ) → Transition → List ℕ
with_rule o at r = set (set (set (set o at r.from) (at + 1) r.label) (at + 2) r.to) (at + 3) r.kind

-- the loads after load i are written, into the zeros z, by what counts of each
pub record LoadsPut (p : Problem) (z : List ℕ) (i : ℕ) (o : List ℕ) : Type 0 where
  pub links : (q : ℕ) → q ≤ max_loads → child_in o q ≡ after (loads_for p) i q
  pub sibling : (k : ℕ) → i < k → k ≤ (shape_of p).loads → sibling_in o k ≡ next_sibling (loads_for p) k
  pub item : (k : ℕ) → i < k → k ≤ (shape_of p).loads → item_of (item_in o k) ≡ items_for p k (load_at (loads_for p) k)
  pub figures : (k : ℕ) → i < k → k ≤ (shape_of p).loads → ((item_in o k).power < power_limit) × ((item_in o k).worth ≤ max_worth)
  pub other : (m : ℕ) → load_rules_at ≤ m → get_or o m 0 ≡ get_or z m 0

-- the first n rules of a list are written from a place on
pub record RulesPut (l : TransitionList) (o : List ℕ) (at n : ℕ) (o' : List ℕ) : Type 0 where
  pub rule : (j : ℕ) → j < n → rule_in o' at j ≡ get_or l.items j no_rule
  pub below : (m : ℕ) → m < at → get_or o' m 0 ≡ get_or o m 0
  pub above : (m : ℕ) → at + rule_numbers * n ≤ m → get_or o' m 0 ≡ get_or o m 0

-- ---- the outline of a problem
-- n rules stand from a place on, those of a list
pub record Listed (o : List ℕ) (at n : ℕ) (l : TransitionList) : Type 0 where
  pub count : n ≡ l.count
  pub rule : (j : ℕ) → j < l.count → rule_in o at j ≡ get_or l.items j no_rule

-- the numbers o are the outline of the problem p, which keeps the limits and has the shape sh
pub record Outlines (p : Problem) (sh : Shape) (o : List ℕ) : Type 0 where
  pub lawful : Lawful p
  pub shape : sh ≡ shape_of p
  pub long : length o ≡ outline_size
  pub child : (k : ℕ) → 0 < k → k ≤ (shape_of p).loads → child_in o k ≡ first_child (loads_for p) k
  pub sibling : (k : ℕ) → 0 < k → k ≤ (shape_of p).loads → sibling_in o k ≡ next_sibling (loads_for p) k
  pub item : (k : ℕ) → 0 < k → k ≤ (shape_of p).loads → item_of (item_in o k) ≡ items_for p k (load_at (loads_for p) k)
  pub figures : (k : ℕ) → 0 < k → k ≤ (shape_of p).loads → ((item_in o k).power < power_limit) × ((item_in o k).worth ≤ max_worth)
  pub rules : Listed o load_rules_at (get_or o counts_at 0) p.tables.book.load_rules
  pub rows : Listed o row_rules_at (get_or o (counts_at + 1) 0) p.tables.book.row_rules
