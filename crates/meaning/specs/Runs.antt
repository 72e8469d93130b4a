-- Runs of a book on a tree.
-- They stand for the paragraph "A run gives every load .." of paper 01, sentence by sentence.
-- A set of loads is σ, the mark of each load by its number (0 off, 1 on). An assignment ρ gives each load a state and its rules.
-- Assumes nothing.
use Rattle.std.specs.Prelude.{ℕ, zero, suc, ◌<◌, ◌≡◌, Bool, false, ◌&&◌, List, T, eqb, length, get_or}
use Rattle.marks.specs.Bits.{has_mark}
use Rattle.tables.specs.declared.rule.Transition.{Transition}
use Rattle.tables.specs.Tables.{Book, no_rule}
use Rattle.tables.specs.Limits.{between}
use Rattle.meaning.specs.Forest.{Item, Forest, nil, node}

-- "Some states are start states, some stages are end stages."
abbrev pub is_start : Book → ℕ → Bool
is_start b q = has_mark b.starts.0 q

abbrev pub is_end : Book → ℕ → Bool
is_end b g = has_mark b.ends.0 g

-- the rule at place j, counted from 0, and the rule with number n, counted from 1
abbrev pub rule_at : List Transition → ℕ → Transition
rule_at ts j = get_or ts j no_rule

abbrev pub rule : List Transition → ℕ → Transition
rule ts zero = no_rule
rule ts (suc j) = rule_at ts j

-- n is the number of a rule, and that rule begins at x
abbrev pub Begins : List Transition → ℕ → ℕ → Type 0
Begins ts zero x = ⊥
Begins ts (suc j) x = (j < length ts) × ((rule_at ts j).from ≡ x)

-- q is the number of a start state
abbrev pub Starts : Book → ℕ → Type 0
Starts b zero = ⊥
Starts b (suc s) = (s < b.states) × T (is_start b (suc s))

-- "A run gives every load a state, a load rule and a row rule (0 for the root)."
pub record Assigned : Type 0 where
  pub state : ℕ
  pub load_rule : ℕ
  pub row_rule : ℕ

-- the row rule of load k: 0 for the root, else one of so many
abbrev pub row_rule_in : (rules number rule : ℕ) → Bool
row_rule_in m zero r = false
row_rule_in m (suc zero) r = eqb r 0
row_rule_in m (suc (suc k)) r = between 1 m r

-- do the numbers of load k name something, of so many states, load rules and row rules? "A number that names nothing in the book makes it no"
abbrev pub named_in : (states load_rules row_rules number : ℕ) → Assigned → Bool
named_in s l r k a = between 1 s a.state && between 1 l a.load_rule && row_rule_in r k a.row_rule

abbrev pub named : Book → (number : ℕ) → Assigned → Bool
named b k a = named_in b.states (length b.load_rules) (length b.row_rules) k a

-- "Each load rule begins with its load's state.": load rule n of a load with mark m, in state q. Its row below begins at the rule's stage.
pub record BranchRun (b : Book) (m n : ℕ) (i : Item) (below : ℕ → Type 0) (q : ℕ) : Type 0 where
  pub begins : Begins b.load_rules n q
  pub mark : (rule b.load_rules n).label ≡ m
  pub serves : T (i.serves (rule b.load_rules n))
  pub runs : below (rule b.load_rules n).to

-- "the row rules begin at the stage of the parent's load rule, follow on, and give each child its state": row rule n at stage g, state q
pub record RowRun (b : Book) (n q : ℕ) (branch later : ℕ → Type 0) (g : ℕ) : Type 0 where
  pub begins : Begins b.row_rules n g
  pub state : (rule b.row_rules n).label ≡ q
  pub branches : branch q
  pub goes : later (rule b.row_rules n).to

module _ (b : Book) (σ : ℕ → ℕ) (ρ : ℕ → Assigned) where
  -- "The last stage reached is an end stage; with no children it is the load rule's own stage."
  -- "So a load's branch is judged through its row, and a row through its branches."
  abbrev pub Run : Forest → ℕ → Type 0
  Run nil g = T (is_end b g)
  Run (node k i below later) g =
      RowRun b (ρ k).row_rule (ρ k).state (BranchRun b (σ k) (ρ k).load_rule i (Run below)) (Run later) g

  -- "The root's state is a start state."; its row rule is 0
  abbrev pub TreeRun : Forest → Type 0
  TreeRun nil = ⊥
  TreeRun (node k i below later) =
      Starts b (ρ k).state × ((ρ k).row_rule ≡ 0) × BranchRun b (σ k) (ρ k).load_rule i (Run below) (ρ k).state
