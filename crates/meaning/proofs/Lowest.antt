-- The chosen entries are the lowest, from the top down, of all runs that reach the same within the allowance. Assumes nothing.
use Prim.Native.Nat.{ℕ, zero, suc, ◌+◌, ◌-◌, ◌≤◌, ◌<◌}
use mathlib.Core.Path.{◌≡◌, sym, ap, subst, ◌∙◌}
use mathlib.Core.Bool.{◌&&◌}
use mathlib.Core.List.{List, ◌∷◌, ◌++◌}
use mathlib.Core.Logic.{◌⊎◌, inl, inr}
use native.Mathlib.Nat.{le_refl, le_trans, le_of_eq, eq-or-lt_of_le}
use native.Mathlib.Omega.{arith}
use lib.Dec.{eqb, leb}
use lib.ListN.{length}
use Rattle.lists.specs.Argmax.{guard, argmax}
use Rattle.lists.proofs.Argmax.{argmax-bound, argmax-first}
use Rattle.lists.proofs.Bools.{below_or}
use Rattle.tables.specs.declared.rule.Transition.{Transition}
use Rattle.tables.specs.Tables.{Book}
use Rattle.meaning.specs.Forest.{Item, Forest, nil, node, total}
use Rattle.meaning.specs.Runs.{is_start, rule_at, rule, Assigned, Begins, Starts, BranchRun, RowRun, Run, TreeRun}
use Rattle.meaning.specs.Cell.{◌⊕◌, draw, score, drawn, scored}
use Rattle.meaning.specs.Best.{best_rule, load_reach, row_reach, load_rule_for, row_rule_for, branch_cell, row_cell, best, start_for, best_tree}
use Rattle.meaning.specs.Choice.{choose_branch, choose, choose_tree, Follows}
use Rattle.meaning.specs.Order.{◌≼◌, end, lower, equal, numbers, tree_numbers}
use Rattle.meaning.proofs.Cell.{⊕-mono, ⊕-pos, ⊕-empty, ⊕-equal}
use Rattle.meaning.proofs.Tree.{Rooted}
use Rattle.meaning.proofs.Optimal.{Covers, follows-split, guard-pass, guard-pos, eqb_of, with_bound, rule_found, share_of, ShareFound, share-found, start-found, branch-complete, complete, branch-sound, sound}

≼-append : {xs ys us vs : List ℕ} → xs ≼ ys → us ≼ vs → (xs ++ us) ≼ (ys ++ vs)
≼-append end q = q
≼-append (lower l) q = lower l
≼-append (equal e p) q = equal e (≼-append p q)

-- ---- a number that reaches the greatest value is not below the one found
argmax-low : (f : ℕ → ℕ) (n j : ℕ) → (argmax f n).value ≤ f j → (argmax f n).index ≤ j
argmax-low f n j h = go (below_or j (argmax f n).index)
  where
    go : (j < (argmax f n).index) ⊎ ((argmax f n).index ≤ j) → (argmax f n).index ≤ j
    go (inl l) = absurd (omega (arith, argmax-first f n j l))
    go (inr l) = l

rule-low : (ts : List Transition) (x : ℕ) (reach : Transition → ℕ) (n : ℕ) → Begins ts n x
    → (best_rule ts x reach).value ≤ reach (rule ts n) → suc (best_rule ts x reach).index ≤ n
rule-low ts x reach zero h l = absurd h
rule-low ts x reach (suc j) h l =
    let low = argmax-low (λ j. guard (eqb (rule_at ts j).from x) (reach (rule_at ts j))) (length ts) j
    (le_trans l (le_of_eq (sym (guard-pass (eqb (rule_at ts j).from x) (reach (rule_at ts j)) (eqb_of _ _ h.1))))) in
    omega arith

start-low : (b : Book) (i : Item) (below : ℕ → ℕ → ℕ) (c q : ℕ) → Starts b q → (start_for b i below c).value ≤ branch_cell b i below q c
    → suc (start_for b i below c).index ≤ q
start-low b i below c zero h l = absurd h
start-low b i below c (suc s) h l =
    let low = argmax-low (λ s. guard (is_start b (suc s)) (branch_cell b i below (suc s) c)) b.states s
    (le_trans l (le_of_eq (sym (guard-pass (is_start b (suc s)) (branch_cell b i below (suc s) c) h.1)))) in
    omega arith

-- a run with rule n beside the chosen rule j: it is higher, or the same and then the rest holds
abbrev Beside : ℕ → ℕ → Type 0 → Type 0
Beside j n Rest = (suc j < n) ⊎ ((suc j ≡ n) × Rest)

beside : (P : ℕ → Type 0) (Rest : Type 0) (j n : ℕ) → suc j ≤ n → (P (suc j) → Rest) → P n → Beside j n Rest
beside P Rest j n h f p = go (eq-or-lt_of_le h)
  where
    go : (suc j ≡ n) ⊎ (suc j < n) → Beside j n Rest
    go (inl e) = inr (e, f (subst P (sym e) p))
    go (inr l) = inl l

-- ---- a load rule beside the chosen one, where both reach the best of the branch
record SameBranch (t : Transition) (i : Item) (below : ℕ → ℕ → ℕ) (R : ℕ → Type 0) (p v a : ℕ) : Type 0 where
  runs : R t.to
  fits : p ≤ a - draw i t.label
  pos : 0 < below t.to (a - draw i t.label)
  reaches : v ≡ below t.to (a - draw i t.label)

module _ (b : Book) where
  branch_same : (i : Item) (below : ℕ → ℕ → ℕ) (R : ℕ → Type 0) (p v : ℕ) → Covers below R p v
      → (q a m : ℕ) → 0 < branch_cell b i below q a → draw i m + p ≤ a → score i m ⊕ v ≡ branch_cell b i below q a
      → BranchRun b m (suc (load_rule_for b i below q a).index) i R q
      → SameBranch (rule_at b.load_rules (load_rule_for b i below q a).index) i below R p v a
  branch_same i below R p v cover q a m pos fits val r =
      let t = rule_at b.load_rules (load_rule_for b i below q a).index in
      let found = rule_found b.load_rules q (load_reach i below a) pos in
      let g = guard-pos (i.serves t && leb (draw i t.label) a) (score i t.label ⊕ below t.to (a - draw i t.label))
      (subst (λ (x : ℕ). 0 < x) (sym found.1) pos) in
      let e : score i t.label ⊕ v ≡ score i t.label ⊕ below t.to (a - draw i t.label) =
      ap (λ (m : ℕ). score i m ⊕ v) r.mark ∙ val ∙ sym found.1 ∙ g.2 in
      let fit : p ≤ a - draw i t.label = subst (λ (m : ℕ). p ≤ a - draw i m) (sym r.mark) (omega arith) in
      record {
        runs = r.runs;
        fits = fit;
        pos = (⊕-pos _ _ g.1).1;
        reaches = (⊕-equal (score i t.label) (score i t.label) v (below t.to (a - draw i t.label)) (le_refl _) (cover _ _ r.runs fit)
            (subst (λ (x : ℕ). 0 < x) (sym e) g.1) e).1;
      }

  branch-beside : (i : Item) (below : ℕ → ℕ → ℕ) (R : ℕ → Type 0) (p v : ℕ) → Covers below R p v
      → (q a m n : ℕ) → 0 < branch_cell b i below q a → draw i m + p ≤ a → score i m ⊕ v ≡ branch_cell b i below q a → BranchRun b m n i R q
      → Beside (load_rule_for b i below q a).index n (SameBranch (rule_at b.load_rules (load_rule_for b i below q a).index) i below R p v a)
  branch-beside i below R p v cover q a m n pos fits val run =
      beside (λ (n : ℕ). BranchRun b m n i R q) _ _ n
      (rule-low b.load_rules q (load_reach i below a) n run.begins
      (le_trans (le_of_eq (sym val))
      (with_bound i below a (rule b.load_rules n) m v run.mark run.serves (omega arith) (cover _ _ run.runs (omega arith)))))
      (branch_same i below R p v cover q a m pos fits val) run

-- ---- a row rule beside the chosen one, where both reach the best of the row: the branch draws no less than the allowance chosen for it
record SameRow (r : Transition) (branch later : ℕ → ℕ → ℕ) (B L : ℕ → Type 0) (v v' a c : ℕ) : Type 0 where
  branches : B r.label
  goes : L r.to
  pos-branch : 0 < branch r.label a
  pos-later : 0 < later r.to (c - a)
  reaches : v ≡ branch r.label a
  rest : v' ≡ later r.to (c - a)

module _ (b : Book) where
  reached : (branch later : ℕ → ℕ → ℕ) (B L : ℕ → Type 0) (p v p' v' : ℕ) → Covers branch B p v → Covers later L p' v'
      → (c : ℕ) (r : Transition) → B r.label → L r.to → p + p' ≤ c
      → (v ≤ branch r.label p) × (v' ≤ later r.to (c - p)) × (v ⊕ v' ≤ branch r.label p ⊕ later r.to (c - p))
  reached branch later B L p v p' v' cb cl c r x y fits =
      let l = cb r.label p x (le_refl p) in
      let m = cl r.to (c - p) y (omega arith) in
      (l, m, ⊕-mono v (branch r.label p) v' (later r.to (c - p)) l m)

  row_same : (branch later : ℕ → ℕ → ℕ) (B L : ℕ → Type 0) (p v p' v' : ℕ) → Covers branch B p v → Covers later L p' v'
      → (g c q : ℕ) → 0 < row_cell b branch later g c → p + p' ≤ c → v ⊕ v' ≡ row_cell b branch later g c
      → RowRun b (suc (row_rule_for b branch later g c).index) q B L g
      → (let r = rule_at b.row_rules (row_rule_for b branch later g c).index in
      (share_of branch later c r < p) ⊎ ((share_of branch later c r ≡ p) × SameRow r branch later B L v v' (share_of branch later c r) c))
  row_same branch later B L p v p' v' cb cl g c q pos fits val run =
      let r = rule_at b.row_rules (row_rule_for b branch later g c).index in
      let own = subst B (sym run.state) run.branches in
      let up = reached branch later B L p v p' v' cb cl c r own run.goes fits in
      let found = rule_found b.row_rules g (row_reach branch later c) pos in
      go own run.goes (share-found b branch later g c pos).1 up
      (eq-or-lt_of_le (argmax-low (λ a. branch r.label a ⊕ later r.to (c - a)) (suc c) p (le_trans (le_of_eq (found.1 ∙ sym val)) up.2)))
    where
      go : {r : Transition} → B r.label → L r.to → ShareFound branch later c r (row_cell b branch later g c)
          → (v ≤ branch r.label p) × (v' ≤ later r.to (c - p)) × (v ⊕ v' ≤ branch r.label p ⊕ later r.to (c - p))
          → (share_of branch later c r ≡ p) ⊎ (share_of branch later c r < p)
          → (share_of branch later c r < p) ⊎ ((share_of branch later c r ≡ p) × SameRow r branch later B L v v' (share_of branch later c r) c)
      go {r} x y found up (inr l) = inl l
      go {r} x y found up (inl k) =
          let a = share_of branch later c r in
          let s = ⊕-equal v (branch r.label a) v' (later r.to (c - a))
          (rw k up.0) (rw k up.1) (subst (λ (z : ℕ). 0 < z) (sym val) pos) (val ∙ sym found.reaches) in
          inr (k, record { branches = x; goes = y; pos-branch = found.pos-branch; pos-later = found.pos-later; reaches = s.0; rest = s.1 })

  row-beside : (branch later : ℕ → ℕ → ℕ) (B L : ℕ → Type 0) (p v p' v' : ℕ) → Covers branch B p v → Covers later L p' v'
      → (g c n q : ℕ) → 0 < row_cell b branch later g c → p + p' ≤ c → v ⊕ v' ≡ row_cell b branch later g c → RowRun b n q B L g
      → (let r = rule_at b.row_rules (row_rule_for b branch later g c).index in
      Beside (row_rule_for b branch later g c).index n
      ((share_of branch later c r < p) ⊎ ((share_of branch later c r ≡ p) × SameRow r branch later B L v v' (share_of branch later c r) c)))
  row-beside branch later B L p v p' v' cb cl g c n q pos fits val run =
      let t = rule b.row_rules n in
      let up = reached branch later B L p v p' v' cb cl c t (subst B (sym run.state) run.branches) run.goes fits in
      beside (λ (n : ℕ). RowRun b n q B L g) _ _ n
      (rule-low b.row_rules g (row_reach branch later c) n run.begins
      (le_trans (le_of_eq (sym val)) (le_trans up.2 (argmax-bound (λ a. branch t.label a ⊕ later t.to (c - a)) (suc c) p (omega arith)))))
      (row_same branch later B L p v p' v' cb cl g c q pos fits val) run

-- the first place where two runs differ
in_order : {x j n p a p' : ℕ} {Same : Type 0} {us vs : List ℕ} → x ≡ suc j → p ≤ a → Beside j n ((a < p') ⊎ ((a ≡ p') × Same))
    → (a ≡ p' → Same → us ≼ vs) → (x ∷ p ∷ us) ≼ (n ∷ p' ∷ vs)
in_order {x = x} {n = n} e h (inl d) f = lower {x = x} {y = n} (omega arith)
in_order {p = p} {p' = p'} e h (inr (d, inl s)) f = equal (e ∙ d) (lower {x = p} {y = p'} (omega arith))
in_order {p = p} {p' = p'} {us = us} {vs = vs} e h (inr (d, inr (s, same))) f = equal (e ∙ d) (go (eq-or-lt_of_le (rw s at h)))
  where
    go : (p ≡ p') ⊎ (p < p') → (p ∷ us) ≼ (p' ∷ vs)
    go (inl q) = equal q (f s same)
    go (inr q) = lower q

state-first : {q s q' : ℕ} {us vs : List ℕ} → q ≡ suc s → suc s ≤ q' → (suc s ≡ q' → us ≼ vs) → (q ∷ us) ≼ (q' ∷ vs)
state-first {q = q} {s = s} {q' = q'} {us = us} {vs = vs} e h f = go (eq-or-lt_of_le h)
  where
    go : (suc s ≡ q') ⊎ (suc s < q') → (q ∷ us) ≼ (q' ∷ vs)
    go (inl d) = equal (e ∙ d) (f d)
    go (inr d) = lower {x = q} {y = q'} (omega arith)

-- ---- the chosen set and run (σ, ρ) beside any other (σ', ρ')
module _ (b : Book) (σ : ℕ → ℕ) (ρ : ℕ → Assigned) (σ' : ℕ → ℕ) (ρ' : ℕ → Assigned) where
  abbrev Lowest : Forest → Type 0
  Lowest f =
      (g c : ℕ) → 0 < best b f g c → Follows σ ρ (choose b f g c) → Run b σ' ρ' f g → drawn σ' f ≤ c → scored σ' f ≡ best b f g c
      → numbers σ ρ f ≼ numbers σ' ρ' f

  branch-lowest : (k : ℕ) (i : Item) (below : Forest) → Lowest below
      → (r q a : ℕ) → 0 < branch_cell b i (best b below) q a → Follows σ ρ (choose_branch b k i (best b below) (choose b below) r q a)
      → BranchRun b (σ' k) (ρ' k).load_rule i (Run b σ' ρ' below) q → draw i (σ' k) + drawn σ' below ≤ a
      → score i (σ' k) ⊕ scored σ' below ≡ branch_cell b i (best b below) q a
      → ((ρ k).load_rule ∷ numbers σ ρ below) ≼ ((ρ' k).load_rule ∷ numbers σ' ρ' below)
  branch-lowest k i below ih r q a pos fol run fits val =
      rw fol.1
      (go (branch-beside b i (best b below) (Run b σ' ρ' below) (drawn σ' below) (scored σ' below) (complete b σ' ρ' below) q a (σ' k) (ρ' k).load_rule pos fits val run))
    where
      go : Beside (load_rule_for b i (best b below) q a).index (ρ' k).load_rule
          (SameBranch (rule_at b.load_rules (load_rule_for b i (best b below) q a).index) i (best b below) (Run b σ' ρ' below) (drawn σ' below) (scored σ' below) a)
          → (suc (load_rule_for b i (best b below) q a).index ∷ numbers σ ρ below) ≼ ((ρ' k).load_rule ∷ numbers σ' ρ' below)
      go (inl l) = lower l
      go (inr (e, s)) = equal e (ih _ _ s.pos fol.2 s.runs s.fits s.reaches)

  row-lowest : (k : ℕ) (i : Item) (below later : Forest) → Lowest below → Lowest later → Lowest (node k i below later)
  unfolding best choose total scored numbers
  row-lowest k i below later ih-below ih-later g c pos fol run fits val =
      let branch = branch_cell b i (best b below) in
      let j = (row_rule_for b branch (best b later) g c).index in
      let r = rule_at b.row_rules j in
      let a = share_of branch (best b later) c r in
      let fols = follows-split σ ρ (choose_branch b k i (best b below) (choose b below) (suc j) r.label a) (choose b later r.to (c - a)) fol in
      let own = branch-sound b σ ρ k i (best b below) (choose b below) (Run b σ ρ below) (drawn σ below) (scored σ below) (sound b σ ρ below)
      (suc j) r.label a (share-found b branch (best b later) g c pos).1.pos-branch fols.0 in
      in_order own.row_rule own.fits
      (row-beside b branch (best b later) (BranchRun b (σ' k) (ρ' k).load_rule i (Run b σ' ρ' below)) (Run b σ' ρ' later)
      (draw i (σ' k) + drawn σ' below) (score i (σ' k) ⊕ scored σ' below) (drawn σ' later) (scored σ' later)
      (branch-complete b i (best b below) (Run b σ' ρ' below) (drawn σ' below) (scored σ' below) (complete b σ' ρ' below) (σ' k) (ρ' k).load_rule)
      (complete b σ' ρ' later) g c (ρ' k).row_rule (ρ' k).state pos fits val run)
      (λ e s. ≼-append
      (branch-lowest k i below ih-below (suc j) r.label a s.pos-branch fols.0 s.branches (le_of_eq (sym e)) s.reaches)
      (ih-later r.to (c - a) s.pos-later fols.1 s.goes (rw e (omega arith)) s.rest))

  lowest : (f : Forest) → Lowest f
  unfolding numbers
  lowest nil = λ g c pos fol run fits val. end
  lowest (node k i below later) = row-lowest k i below later (lowest below) (lowest later)

  -- and of a tree: the start state, then the load rule and the loads below
  pub tree-lowest : (f : Forest) → Rooted f → (c : ℕ) → 0 < best_tree b f c → Follows σ ρ (choose_tree b f c) → TreeRun b σ' ρ' f → drawn σ' f ≤ c
      → scored σ' f ≡ best_tree b f c → tree_numbers σ ρ f ≼ tree_numbers σ' ρ' f
  unfolding best_tree choose_tree total scored tree_numbers
  tree-lowest nil o c pos fol run fits val = end
  tree-lowest (node k i below nil) o c pos fol run fits val =
      let s = (start_for b i (best b below) c).index in
      let value = sym (⊕-empty _) ∙ val in
      let found = start-found b i (best b below) c pos in
      let low = start-low b i (best b below) c (ρ' k).state run.0
      (le_trans (le_of_eq (sym value))
      (branch-complete b i (best b below) (Run b σ' ρ' below) (drawn σ' below) (scored σ' below) (complete b σ' ρ' below) (σ' k) (ρ' k).load_rule (ρ' k).state c run.2 (omega arith))) in
      state-first (ap (λ (z : Assigned). z.state) fol.1) low
      (λ e. branch-lowest k i below (lowest below) 0 (suc s) c (rw found.1 pos) fol
      (subst (BranchRun b (σ' k) (ρ' k).load_rule i (Run b σ' ρ' below)) (sym e) run.2) (omega arith) (value ∙ sym found.1))
  tree-lowest (node k i below (node k' i' below' later')) o c pos fol run fits val = absurd o
