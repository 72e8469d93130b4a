-- The plan and the run of a checked set, among equals.
-- It stands for "Which plan among equals" of paper 01, sentence by sentence, "where "best" and "greatest worth" mean both" worth and power
-- (request Four of paper 02): they are those of Best. Assumes nothing.
use Rattle.std.specs.Prelude.{ℕ, zero, suc, ◌-◌, ◌≡◌, cond, List, [], ◌∷◌, ◌++◌, eqb, length}
use Rattle.lists.specs.Argmax.{guard}
use Rattle.tables.specs.Tables.{Book, Tables}
use Rattle.tables.specs.declared.entry.Entry.{Entry}
use Rattle.meaning.specs.Forest.{Item, Forest, nil, node, checked, tree}
use Rattle.meaning.specs.Runs.{rule_at, Assigned}
use Rattle.meaning.specs.Sets.{tree_of}
use Rattle.meaning.specs.Cell.{draw}
use Rattle.meaning.specs.Best.{load_rule_for, row_rule_for, shares, start_for, branch_cell, best}

-- an entry is a load's line of a plan: "number,mark,state,load rule,row rule"
module _ (b : Book) where
  -- "A load takes the lowest load rule that still reaches the best for its allowance; its row gets the allowance less its power if on."
  abbrev pub choose_branch : ℕ → Item → (ℕ → ℕ → ℕ) → (ℕ → ℕ → List Entry) → (r q c : ℕ) → List Entry
  choose_branch k i below entries r q c =
      let j = (load_rule_for b i below q c).index in
      let t = rule_at b.load_rules j in
      record { number = k; mark = t.label; state = q; rule = suc j; row = r } ∷ entries t.to (c - draw i t.label)

  -- "Each child in turn takes the lowest row rule that still reaches the best, then the smallest allowance for its own branch that does;
  -- what is left passes to the later children."
  unfoldable pub choose : Forest → ℕ → ℕ → List Entry
  choose nil g c = []
  choose (node k i below later) g c =
      let branch = branch_cell b i (best b below) in
      let j = (row_rule_for b branch (best b later) g c).index in
      let r = rule_at b.row_rules j in
      let a = (shares (branch r.label) (best b later r.to) c).index in
      choose_branch k i (best b below) (choose below) (suc j) r.label a ++ choose later r.to (c - a)

  -- "The root takes the lowest start state that still reaches the greatest worth, with the whole budget as allowance."
  unfoldable pub choose_tree : Forest → ℕ → List Entry
  choose_tree nil c = []
  choose_tree (node k i below later) c =
      choose_branch k i (best b below) (choose below) 0 (suc (start_for b i (best b below) c).index) c

unfoldable pub plan : Tables → List Entry
plan t = choose_tree t.book (tree_of t) t.budget

-- "For a checked set the run takes the lowest start state, load rules and row rules from the top down that can be completed to that set."
unfoldable pub check : Tables → (ℕ → ℕ) → List Entry
check t σ = choose_tree t.book (tree (checked σ) t.loads) 0

-- the entry of a load
abbrev pub no_entry : Entry
no_entry = record { number = 0; mark = 0; state = 0; rule = 0; row = 0 }

unfoldable pub find : List Entry → ℕ → Entry
find [] n = no_entry
find (e ∷ es) n = cond (eqb e.number n) e (find es n)

-- the entries in load order: those of the n loads from number k on
unfoldable pub in_order : List Entry → (k n : ℕ) → List Entry
in_order es k zero = []
in_order es k (suc n) = find es k ∷ in_order es (suc k) n

-- what is shown: "for each load"
unfoldable pub plan_entries : Tables → List Entry
plan_entries t = in_order (plan t) 1 (length t.loads)

unfoldable pub check_entries : Tables → (ℕ → ℕ) → List Entry
check_entries t σ = in_order (check t σ) 1 (length t.loads)

-- the assignment and the set that entries list. "The set shown is the loads printed with mark 1."
abbrev pub assigned : Entry → Assigned
assigned e = record { state = e.state; load_rule = e.rule; row_rule = e.row }

abbrev pub assigned_by : List Entry → ℕ → Assigned
assigned_by es n = assigned (find es n)

abbrev pub marks_of : List Entry → ℕ → ℕ
marks_of es n = (find es n).mark

abbrev pub shown_set : List Entry → ℕ → ℕ
shown_set es n = guard (eqb (marks_of es n) 1) 1

-- a set and an assignment are those that entries list
abbrev pub Follows : (ℕ → ℕ) → (ℕ → Assigned) → List Entry → Type 0
Follows σ ρ [] = Unit {0}
Follows σ ρ (e ∷ es) = (σ e.number ≡ e.mark) × (ρ e.number ≡ assigned e) × Follows σ ρ es
