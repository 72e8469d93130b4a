-- The judge of a proposed run, as a test.
-- It stands for "The judge takes three numbers for each load .. and says yes or no. A number that names nothing in the book makes it no."
-- of paper 01. Assumes nothing.
use Rattle.std.specs.Prelude.{ℕ, zero, suc, Bool, false, ◌&&◌, List, ltb, eqb, length}
use Rattle.tables.specs.declared.rule.Transition.{Transition}
use Rattle.tables.specs.Tables.{Book}
use Rattle.meaning.specs.Forest.{Item, Forest, nil, node}
use Rattle.meaning.specs.Runs.{is_start, is_end, rule_at, rule, Assigned}

-- is n the number of a rule that begins at x?
abbrev pub begins : List Transition → ℕ → ℕ → Bool
begins ts zero x = false
begins ts (suc j) x = ltb j (length ts) && eqb (rule_at ts j).from x

-- is q the number of a start state?
abbrev pub starts : Book → ℕ → Bool
starts b zero = false
starts b (suc s) = ltb s b.states && is_start b (suc s)

module _ (b : Book) (ρ : ℕ → Assigned) where
  -- a load's branch is judged through its row, ..
  abbrev pub judge_branch : ℕ → Item → (below : ℕ → Bool) → ℕ → Bool
  judge_branch k i below q =
      let r = rule b.load_rules (ρ k).load_rule in
      begins b.load_rules (ρ k).load_rule q && (i.serves r && below r.to)

  -- .. and a row through its branches
  unfoldable pub judge : Forest → ℕ → Bool
  judge nil g = is_end b g
  judge (node k i below later) g =
      let r = rule b.row_rules (ρ k).row_rule in
      begins b.row_rules (ρ k).row_rule g && (eqb r.label (ρ k).state && (judge_branch k i (judge below) (ρ k).state && judge later r.to))

  -- "The root's state is a start state"; its row rule is 0
  unfoldable pub judge_tree : Forest → Bool
  judge_tree nil = false
  judge_tree (node k i below later) =
      starts b (ρ k).state && (eqb (ρ k).row_rule 0 && judge_branch k i (judge below) (ρ k).state)

  -- "The run's set is the loads whose load rule has mark 1."
  abbrev pub own_marks : ℕ → ℕ
  own_marks k = (rule b.load_rules (ρ k).load_rule).label
