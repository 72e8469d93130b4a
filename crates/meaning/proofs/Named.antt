-- In a run the numbers of every load name something in the book. Assumes nothing.
use Prim.Native.Nat.{ℕ, zero, suc, ◌+◌, ◌-◌, ◌≤◌, ◌<◌}
use mathlib.Core.Path.{◌≡◌, refl, sym, subst, ◌∙◌}
use mathlib.Core.Bool.{Bool, true, false, ◌&&◌, ◌||◌}
use mathlib.Core.List.{List, [], ◌∷◌}
use native.Mathlib.Omega.{arith}
use borrow.Author.Tests.{eq-eqb, ne_eqb, le-leb}
use lib.Dec.{eqb}
use lib.ListN.{length}
use Rattle.lists.specs.Tests.{pick}
use Rattle.lists.proofs.Bools.{and_left, and_right, or-true}
use Rattle.tables.specs.declared.rule.RuleRange.{RuleRange}
use Rattle.tables.specs.declared.rule.Sort.TheVariants as sort
use Rattle.tables.specs.declared.rule.Transition.{Transition}
use Rattle.tables.specs.declared.load.Load.{Load}
use Rattle.tables.specs.Tables.{Book, Tables}
use Rattle.tables.specs.Limits.{between, range_for}
use Rattle.tables.specs.Lawful.{RuleFits, Lawful}
use Rattle.meaning.specs.Forest.{Item, Forest, nil, node, planned, row, tree, total, sum}
use Rattle.meaning.specs.Runs.{Assigned, rule_at, rule, Begins, BranchRun, Run, TreeRun, row_rule_in, named}
use Rattle.meaning.specs.Sets.{tree_of}
use Rattle.meaning.proofs.Tree.{tree-total}
use Rattle.meaning.proofs.Ordered.{loads-ordered}

-- a rule that begins somewhere is one of the list, and begins within its range
begins-counted : (ts : List Transition) (n x : ℕ) → Begins ts n x → between 1 (length ts) n ≡ true
begins-counted ts zero x h = absurd h
begins-counted ts (suc j) x h = rw (le-leb 1 (suc j) (omega arith), le-leb (suc j) (length ts) h.0)

begins-within : (m : RuleRange) (ts : List Transition) → ((j : ℕ) → j < length ts → RuleFits m (rule_at ts j)) → (n x : ℕ) → Begins ts n x → between 1 m.from x ≡ true
begins-within m ts fit zero x h = absurd h
begins-within m ts fit (suc j) x h = let b = (fit j h.0).begins in rw (le-leb 1 x (omega (arith, h.1))) (le-leb x m.from (omega (arith, h.1)))

-- ---- how many loads have a number that names nothing, the root's row rule 0 or not
abbrev near_named : Book → ℕ → Assigned → Bool
near_named b k a =
    between 1 b.states a.state
    && between 1 (length b.load_rules) a.load_rule
    && ((eqb k 1 && eqb a.row_rule 0) || between 1 (length b.row_rules) a.row_rule)

lacking : Book → (ℕ → Assigned) → ℕ → Item → ℕ
lacking b ρ k i = pick (near_named b k (ρ k)) 0 1

module _ (b : Book) (fit : (j : ℕ) → j < length b.load_rules → RuleFits (range_for b sort.Load) (rule_at b.load_rules j)) (σ : ℕ → ℕ) (ρ : ℕ → Assigned) where
  -- a load with a run of its branch, the root by its row rule 0 or another by the row rule it begins with
  none-lacking : (k : ℕ) (i : Item) (below : ℕ → Type 0) → BranchRun b (σ k) (ρ k).load_rule i below (ρ k).state
      → (eqb k 1 && eqb (ρ k).row_rule 0) || between 1 (length b.row_rules) (ρ k).row_rule ≡ true → lacking b ρ k i ≡ 0
  unfolding lacking
  none-lacking k i below r h =
      rw (begins-within _ b.load_rules fit (ρ k).load_rule (ρ k).state r.begins, begins-counted b.load_rules (ρ k).load_rule (ρ k).state r.begins, h)

  row-lacks-none : (f : Forest) (g : ℕ) → Run b σ ρ f g → total (lacking b ρ) f ≡ 0
  unfolding total
  row-lacks-none nil g r = refl
  row-lacks-none (node k i below later) g r =
      let c = begins-counted b.row_rules (ρ k).row_rule g r.begins in
      omega (
        arith,
        none-lacking k i (Run b σ ρ below) r.branches (rw c (or-true (eqb k 1 && eqb (ρ k).row_rule 0))),
        row-lacks-none below (rule b.load_rules (ρ k).load_rule).to r.branches.runs,
        row-lacks-none later (rule b.row_rules (ρ k).row_rule).to r.goes,
      )

  tree-lacks-none : (ls : List Load) → TreeRun b σ ρ (tree planned ls) → total (lacking b ρ) (tree planned ls) ≡ 0
  unfolding tree total
  tree-lacks-none [] r = absurd r
  tree-lacks-none (l ∷ ls) r =
      let root : (eqb 1 1 && eqb (ρ 1).row_rule 0) || between 1 (length b.row_rules) (ρ 1).row_rule ≡ true = rw (eq-eqb (ρ 1).row_rule 0 r.1) in
      omega (
        arith,
        none-lacking 1 (planned 1 l) (Run b σ ρ (row planned ls 2 1)) r.2 root,
        row-lacks-none (row planned ls 2 1) (rule b.load_rules (ρ 1).load_rule).to r.2.runs,
      )

  root_none : (ls : List Load) → TreeRun b σ ρ (tree planned ls) → (ρ 1).row_rule ≡ 0
  unfolding tree
  root_none [] r = absurd r
  root_none (l ∷ ls) r = r.1

-- a sum of 0 has no number above 0
sum-none : (w : ℕ → ℕ) (k : ℕ) (ls : List Load) → sum (λ k l. w k) ls k ≡ 0 → (j : ℕ) → j < length ls → (m : ℕ) → m ≡ j + k → w m ≡ 0
unfolding sum
sum-none w k [] h j b m e = absurd (omega arith)
sum-none w k (l ∷ ls) h zero b m e = let s : m ≡ k = omega arith in rw s (omega arith)
sum-none w k (l ∷ ls) h (suc j) b m e = sum-none w (suc k) ls (omega arith) j (omega arith) m (omega arith)

found : (t : Bool) → pick {A = ℕ} t 0 1 ≡ 0 → t ≡ true
found true h = refl
found false h = absurd (omega arith)

-- the root's row rule is 0, and that of a later load is in the book
row_named : (rules k r : ℕ) → 0 < k → (k ≡ 1 → r ≡ 0) → (eqb k 1 && eqb r 0) || between 1 rules r ≡ true → row_rule_in rules k r ≡ true
row_named m zero r p root h = absurd (omega arith)
row_named m (suc zero) r p root h = eq-eqb r 0 (root refl)
row_named m (suc (suc k)) r p root h = rw (ne_eqb (suc (suc k)) 1 (λ e. absurd (omega arith))) at h

pub run-names : (t : Tables) → Lawful t → (σ : ℕ → ℕ) (ρ : ℕ → Assigned) → TreeRun t.book σ ρ (tree_of t)
    → (k : ℕ) → 0 < k → k ≤ length t.loads → named t.book k (ρ k) ≡ true
unfolding lacking
run-names t w σ ρ r k pos few =
    let b = t.book in
    let none = sym (tree-total planned (lacking b ρ) t.loads (loads-ordered t.loads w.load)) ∙ tree-lacks-none b (w.rule sort.Load) σ ρ t.loads r in
    let is = found (near_named b k (ρ k)) (sum-none (λ k. pick (near_named b k (ρ k)) 0 1) 1 t.loads none (k - 1) (omega arith) k (omega arith)) in
    let figures = and_left (between 1 b.states (ρ k).state && between 1 (length b.load_rules) (ρ k).load_rule) _ is in
    let root : k ≡ 1 → (ρ k).row_rule ≡ 0 = λ e. subst (λ (i : ℕ). (ρ i).row_rule ≡ 0) (sym e) (root_none b (w.rule sort.Load) σ ρ t.loads r) in
    rw figures (row_named (length b.row_rules) k (ρ k).row_rule pos root (and_right (between 1 b.states (ρ k).state && between 1 (length b.load_rules) (ρ k).load_rule) _ is))
