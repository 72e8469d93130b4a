-- With all kinds 0 everything is as it was before there were kinds: what a rule serves is looked at only for the rules of the book. Assumes nothing.
use Prim.Native.Nat.{ℕ, zero, suc, ◌-◌}
use mathlib.Core.Path.{◌≡◌, refl, sym, ap, ap₂, subst, ◌∙◌}
use mathlib.Core.Bool.{Bool, true, false, cond, ◌&&◌}
use mathlib.Core.List.{List, [], ◌∷◌, ◌++◌}
use mathlib.Core.Logic.{◌↔◌}
use borrow.Author.Tests.{eq-eqb}
use lib.Dec.{T, eqb, leb}
use lib.ListN.{length, get_or, drop}
use Rattle.lists.specs.Tests.{some}
use Rattle.lists.proofs.Tests.{none_first, none-drop}
use Rattle.lists.specs.Argmax.{guard, argmax}
use Rattle.tables.specs.declared.rule.Transition.{Transition}
use Rattle.tables.specs.declared.load.Load.{Load}
use Rattle.tables.specs.declared.entry.Entry.{Entry}
use Rattle.tables.specs.Tables.{Book, Tables, no_load}
use Rattle.tables.specs.Kinds.{rule_kinded, load_kinded, has_kinds}
use Rattle.tables.proofs.Plain.{no-kinds, rule-plain, load-plain, loads-plain}
use Rattle.meaning.specs.Forest.{Item, Forest, nil, node, planned, checked, row, tree, row_at}
use Rattle.meaning.specs.Runs.{is_start, rule_at, rule, Assigned, BranchRun, Run, TreeRun}
use Rattle.meaning.specs.Sets.{tree_of}
use Rattle.meaning.specs.Cell.{◌⊕◌, draw, score}
use Rattle.meaning.specs.Best.{shares, load_rule_for, row_rule_for, branch_cell, row_cell, best, best_tree, best_plan, best_check}
use Rattle.meaning.specs.Choice.{choose_branch, choose, choose_tree, plan, check, in_order, plan_entries, check_entries}
use Rattle.meaning.specs.Judge.{begins, starts, judge_branch, judge, judge_tree}
use Rattle.meaning.specs.Kindless.{unkinded, unkinded_checked, unkinded_tree, unkinded_checked_tree, AsBefore}

-- ---- a forest in which other rules serve
-- so that they serve load k as s says
abbrev served : (ℕ → Transition → Bool) → ℕ → Item → Item
served s k i = record { power = i.power; worth = i.worth; kind = 0; serves = s k }

unfoldable served_all : (ℕ → Transition → Bool) → Forest → Forest
served_all s nil = nil
served_all s (node k i below later) = node k (served s k i) (served_all s below) (served_all s later)

module _ (b : Book) (s : ℕ → Transition → Bool) where
  -- of the rules of the book the same serve
  abbrev Alike : ℕ → Item → Type 0
  Alike k i = (n : ℕ) → i.serves (rule b.load_rules n) ≡ s k (rule b.load_rules n)

  abbrev AllAlike : Forest → Type 0
  AllAlike nil = Unit {0}
  AllAlike (node k i below later) = Alike k i × AllAlike below × AllAlike later

  -- the best load rule
  rule-same : (k : ℕ) (i : Item) → Alike k i → (below : ℕ → ℕ → ℕ) (q c : ℕ) → load_rule_for b i below q c ≡ load_rule_for b (served s k i) below q c
  rule-same k i h below q c = λ x. argmax (λ j.
      let t = rule_at b.load_rules j in
      guard (eqb t.from q) (guard (h (suc j) x && leb (draw i t.label) c) (score i t.label ⊕ below t.to (c - draw i t.label)))) (length b.load_rules)

  branch_same : (k : ℕ) (i : Item) → Alike k i → (below : ℕ → ℕ → ℕ) → branch_cell b i below ≡ branch_cell b (served s k i) below
  branch_same k i h below = λ x q c. (rule-same k i h below q c x).value

  best-same : (f : Forest) → AllAlike f → best b f ≡ best b (served_all s f)
  unfolding best served_all
  best-same nil h = refl
  best-same (node k i below later) h =
      let e = branch_same k i h.0 (best b below) ∙ ap (branch_cell b (served s k i)) (best-same below h.1) in
      λ x g c. row_cell b (e x) (best-same later h.2 x) g c

  tree-same : (f : Forest) → AllAlike f → best_tree b f ≡ best_tree b (served_all s f)
  unfolding best_tree served_all
  tree-same nil h = refl
  tree-same (node k i below later) h =
      let e = branch_same k i h.0 (best b below) ∙ ap (branch_cell b (served s k i)) (best-same below h.1) in
      λ x c. (argmax (λ q. guard (is_start b (suc q)) (e x (suc q) c)) b.states).value

  -- what is chosen
  chosen-same : (k : ℕ) (i : Item) → Alike k i → (below : ℕ → ℕ → ℕ) (entries : ℕ → ℕ → List Entry)
      → choose_branch b k i below entries ≡ choose_branch b k (served s k i) below entries
  chosen-same k i h below entries = λ x r q c.
      let j = (rule-same k i h below q c x).index in
      let t = rule_at b.load_rules j in
      record { number = k; mark = t.label; state = q; rule = suc j; row = r } ∷ entries t.to (c - draw i t.label)

  -- a row, by what is chosen for the branch of its first load and for its later loads
  abbrev row_by : (branch later : ℕ → ℕ → ℕ) → (ℕ → ℕ → ℕ → List Entry) → (ℕ → ℕ → List Entry) → ℕ → ℕ → List Entry
  row_by branch later own rest g c =
      let j = (row_rule_for b branch later g c).index in
      let r = rule_at b.row_rules j in
      let a = (shares (branch r.label) (later r.to) c).index in
      own (suc j) r.label a ++ rest r.to (c - a)

  choose-same : (f : Forest) → AllAlike f → choose b f ≡ choose b (served_all s f)
  unfolding choose served_all
  choose-same nil h = refl
  choose-same (node k i below later) h =
      let e = branch_same k i h.0 (best b below) ∙ ap (branch_cell b (served s k i)) (best-same below h.1) in
      let own = chosen-same k i h.0 (best b below) (choose b below) ∙ ap₂ (choose_branch b k (served s k i)) (best-same below h.1) (choose-same below h.1) in
      λ x. row_by (e x) (best-same later h.2 x) (own x) (choose-same later h.2 x)

  choose-tree-same : (f : Forest) → AllAlike f → choose_tree b f ≡ choose_tree b (served_all s f)
  unfolding choose_tree served_all
  choose-tree-same nil h = refl
  choose-tree-same (node k i below later) h =
      let e = branch_same k i h.0 (best b below) ∙ ap (branch_cell b (served s k i)) (best-same below h.1) in
      let own = chosen-same k i h.0 (best b below) (choose b below) ∙ ap₂ (choose_branch b k (served s k i)) (best-same below h.1) (choose-same below h.1) in
      λ x c. own x 0 (suc (argmax (λ q. guard (is_start b (suc q)) (e x (suc q) c)) b.states).index) c

  -- what is judged
  module _ (ρ : ℕ → Assigned) where
    judged-same : (k : ℕ) (i : Item) → Alike k i → {below below' : ℕ → Bool} → below ≡ below'
        → judge_branch b ρ k i below ≡ judge_branch b ρ k (served s k i) below'
    judged-same k i h e = λ x q.
        let r = rule b.load_rules (ρ k).load_rule in
        begins b.load_rules (ρ k).load_rule q && (h (ρ k).load_rule x && e x r.to)

    judge-same : (f : Forest) → AllAlike f → judge b ρ f ≡ judge b ρ (served_all s f)
    unfolding judge served_all
    judge-same nil h = refl
    judge-same (node k i below later) h =
        let own = judged-same k i h.0 (judge-same below h.1) in
        let rest = judge-same later h.2 in
        λ x g.
        let r = rule b.row_rules (ρ k).row_rule in
        begins b.row_rules (ρ k).row_rule g && (eqb r.label (ρ k).state && (own x (ρ k).state && rest x r.to))

    judge-tree-same : (f : Forest) → AllAlike f → judge_tree b ρ f ≡ judge_tree b ρ (served_all s f)
    unfolding judge_tree served_all
    judge-tree-same nil h = refl
    judge-tree-same (node k i below later) h =
        let own = judged-same k i h.0 (judge-same below h.1) in
        λ x. starts b (ρ k).state && (eqb (ρ k).row_rule 0 && own x (ρ k).state)

    -- and what is run
    module _ (σ : ℕ → ℕ) where
      branch_to : (k : ℕ) (i : Item) → Alike k i → (below below' : ℕ → Type 0) → ((g : ℕ) → below g → below' g) → (q : ℕ)
          → BranchRun b (σ k) (ρ k).load_rule i below q → BranchRun b (σ k) (ρ k).load_rule (served s k i) below' q
      branch_to k i h below below' f q r = record {
        begins = r.begins;
        mark = r.mark;
        serves = subst T (h (ρ k).load_rule) r.serves;
        runs = f _ r.runs;
      }

      branch-from : (k : ℕ) (i : Item) → Alike k i → (below below' : ℕ → Type 0) → ((g : ℕ) → below' g → below g) → (q : ℕ)
          → BranchRun b (σ k) (ρ k).load_rule (served s k i) below' q → BranchRun b (σ k) (ρ k).load_rule i below q
      branch-from k i h below below' f q r = record {
        begins = r.begins;
        mark = r.mark;
        serves = subst T (sym (h (ρ k).load_rule)) r.serves;
        runs = f _ r.runs;
      }

      run-to : (f : Forest) → AllAlike f → (g : ℕ) → Run b σ ρ f g → Run b σ ρ (served_all s f) g
      unfolding served_all
      run-to nil h g r = r
      run-to (node k i below later) h g r = record {
        begins = r.begins;
        state = r.state;
        branches = branch_to k i h.0 (Run b σ ρ below) (Run b σ ρ (served_all s below)) (run-to below h.1) _ r.branches;
        goes = run-to later h.2 _ r.goes;
      }

      run-from : (f : Forest) → AllAlike f → (g : ℕ) → Run b σ ρ (served_all s f) g → Run b σ ρ f g
      unfolding served_all
      run-from nil h g r = r
      run-from (node k i below later) h g r = record {
        begins = r.begins;
        state = r.state;
        branches = branch-from k i h.0 (Run b σ ρ below) (Run b σ ρ (served_all s below)) (run-from below h.1) _ r.branches;
        goes = run-from later h.2 _ r.goes;
      }

      tree-run : (f : Forest) → AllAlike f → TreeRun b σ ρ f ↔ TreeRun b σ ρ (served_all s f)
      unfolding served_all
      tree-run nil h = (λ r. r, λ r. r)
      tree-run (node k i below later) h = (
        λ r. (r.0, r.1, branch_to k i h.0 (Run b σ ρ below) (Run b σ ρ (served_all s below)) (run-to below h.1) _ r.2),
        λ r. (r.0, r.1, branch-from k i h.0 (Run b σ ρ below) (Run b σ ρ (served_all s below)) (run-from below h.1) _ r.2),
      )

-- ---- the forest of the loads
module _ (s : ℕ → Transition → Bool) (item item' : ℕ → Load → Item) (e : (k : ℕ) (l : Load) → served s k (item k l) ≡ item' k l) where
  served-row : (ls : List Load) (k p : ℕ) → served_all s (row item ls k p) ≡ row item' ls k p
  unfolding row served_all
  served-row [] k p = refl
  served-row (l ∷ ls) k p = go (eqb l.parent p) (served-row ls (suc k) k) (served-row ls (suc k) p)
    where
      go : (t : Bool) → served_all s (row item ls (suc k) k) ≡ row item' ls (suc k) k → served_all s (row item ls (suc k) p) ≡ row item' ls (suc k) p
          → served_all s (cond t (node k (item k l) (row item ls (suc k) k) (row item ls (suc k) p)) (row item ls (suc k) p))
          ≡ cond t (node k (item' k l) (row item' ls (suc k) k) (row item' ls (suc k) p)) (row item' ls (suc k) p)
      go true below later = λ x. node k (e k l x) (below x) (later x)
      go false below later = later

  served-tree : (ls : List Load) → served_all s (tree item ls) ≡ tree item' ls
  unfolding tree served_all
  served-tree [] = refl
  served-tree (l ∷ ls) = λ x. node 1 (e 1 l x) (served-row ls 2 1 x) nil

  served-at : (ls : List Load) (k : ℕ) → served_all s (row_at item ls k) ≡ row_at item' ls k
  unfolding served_all
  served-at ls zero = refl
  served-at ls (suc j) = λ x.
      node (suc j) (e (suc j) (get_or ls j no_load) x) (served-row (drop (suc j) ls) (suc (suc j)) (suc j) x)
      (served-row (drop (suc j) ls) (suc (suc j)) (get_or ls j no_load).parent x)

-- ---- no kind but 0
rule-kind : (ts : List Transition) → some rule_kinded ts ≡ false → (n : ℕ) → (rule ts n).kind ≡ 0
rule-kind ts h zero = refl
rule-kind ts h (suc j) = rule-plain ts h j

module _ (b : Book) (s : ℕ → Transition → Bool) (item : ℕ → Load → Item) (h : (k : ℕ) (l : Load) → l.kind ≡ 0 → Alike b s k (item k l)) where
  row-alike : (ls : List Load) → some load_kinded ls ≡ false → (k p : ℕ) → AllAlike b s (row item ls k p)
  unfolding row
  row-alike [] n k p = tt
  row-alike (l ∷ ls) n k p =
      let m = none_first load_kinded l ls n in
      go (eqb l.parent p) (h k l (load-plain l m.0)) (row-alike ls m.1 (suc k) k) (row-alike ls m.1 (suc k) p)
    where
      go : (t : Bool) → Alike b s k (item k l) → AllAlike b s (row item ls (suc k) k) → AllAlike b s (row item ls (suc k) p)
          → AllAlike b s (cond t (node k (item k l) (row item ls (suc k) k) (row item ls (suc k) p)) (row item ls (suc k) p))
      go true own below later = (own, below, later)
      go false own below later = later

  tree-alike : (ls : List Load) → some load_kinded ls ≡ false → AllAlike b s (tree item ls)
  unfolding tree
  tree-alike [] n = tt
  tree-alike (l ∷ ls) n =
      let m = none_first load_kinded l ls n in
      (h 1 l (load-plain l m.0), row-alike ls m.1 2 1, tt)

  at-alike : (ls : List Load) → some load_kinded ls ≡ false → (k : ℕ) → AllAlike b s (row_at item ls k)
  at-alike ls n zero = tt
  at-alike ls n (suc j) =
      let later = none-drop load_kinded ls n (suc j) in
      (h (suc j) (get_or ls j no_load) (loads-plain ls n j), row-alike (drop (suc j) ls) later _ _, row-alike (drop (suc j) ls) later _ _)

-- ---- tables with all kinds 0
module _ (t : Tables) (h : has_kinds t ≡ false) where
  none : (some rule_kinded t.book.load_rules ≡ false) × (some load_kinded t.loads ≡ false)
  none = no-kinds t h

  same_kind : (l : Load) → l.kind ≡ 0 → (n : ℕ) → eqb (rule t.book.load_rules n).kind l.kind ≡ true
  same_kind l e n = eq-eqb _ _ (rule-kind t.book.load_rules none.0 n ∙ sym e)

  -- as a plan, and as a check of a set, looks at them
  abbrev all : ℕ → Transition → Bool
  all k r = true

  plan-alike : (k : ℕ) (l : Load) → l.kind ≡ 0 → Alike t.book all k (planned k l)
  plan-alike k l e n = same_kind l e n

  abbrev marked : (ℕ → ℕ) → ℕ → Transition → Bool
  marked σ k r = eqb r.label (σ k)

  check-alike : (σ : ℕ → ℕ) (k : ℕ) (l : Load) → l.kind ≡ 0 → Alike t.book (marked σ) k (checked σ k l)
  check-alike σ k l e n = ap (λ (x : Bool). x && eqb (rule t.book.load_rules n).label (σ k)) (same_kind l e n)

  plan-tree : AllAlike t.book all (tree_of t)
  plan-tree = tree-alike t.book all planned plan-alike t.loads none.1

  plan-served : served_all all (tree_of t) ≡ unkinded_tree t
  plan-served = served-tree all planned unkinded (λ k l. refl) t.loads

  check-tree : (σ : ℕ → ℕ) → AllAlike t.book (marked σ) (tree (checked σ) t.loads)
  check-tree σ = tree-alike t.book (marked σ) (checked σ) (check-alike σ) t.loads none.1

  check-served : (σ : ℕ → ℕ) → served_all (marked σ) (tree (checked σ) t.loads) ≡ unkinded_checked_tree t σ
  check-served σ = served-tree (marked σ) (checked σ) (unkinded_checked σ) (λ k l. refl) t.loads

  pub as_before : AsBefore t
  unfolding best_plan best_check plan_entries check_entries plan check
  as_before = record {
    plan_best = λ x. (tree-same t.book all (tree_of t) plan-tree ∙ ap (best_tree t.book) plan-served) x t.budget;
    plan = ap (λ (f : ℕ → List Entry). in_order (f t.budget) 1 (length t.loads))
        (choose-tree-same t.book all (tree_of t) plan-tree ∙ ap (choose_tree t.book) plan-served);
    check_best = λ σ x. (tree-same t.book (marked σ) _ (check-tree σ) ∙ ap (best_tree t.book) (check-served σ)) x 0;
    check = λ σ. ap (λ (f : ℕ → List Entry). in_order (f 0) 1 (length t.loads))
        (choose-tree-same t.book (marked σ) _ (check-tree σ) ∙ ap (choose_tree t.book) (check-served σ));
    rows = λ k.
        best-same t.book all (row_at planned t.loads k) (at-alike t.book all planned plan-alike t.loads none.1 k)
        ∙ ap (best t.book) (served-at all planned unkinded (λ k l. refl) t.loads k);
    runs = λ σ ρ. subst (λ (f : Forest). TreeRun t.book σ ρ (tree_of t) ↔ TreeRun t.book σ ρ f) plan-served (tree-run t.book all ρ σ (tree_of t) plan-tree);
    judged = λ ρ. judge-tree-same t.book all ρ (tree_of t) plan-tree ∙ ap (judge_tree t.book ρ) plan-served;
  }
