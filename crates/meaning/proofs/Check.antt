-- A set has a run exactly if its check finds one, and exactly if the tree automaton accepts it (document 000, section 2.1).
-- Assumes nothing.
use Prim.Native.Nat.{ℕ, zero, suc, ◌+◌, ◌≤◌, ◌<◌, zero-le}
use mathlib.Core.Path.{◌≡◌, refl, sym, ap, ap₂, ◌∙◌}
use mathlib.Core.Bool.{Bool, true, false, cond}
use mathlib.Core.List.{List, [], ◌∷◌}
use mathlib.Core.Logic.{◌↔◌, ◌⊎◌, inl, inr}
use native.Mathlib.Nat.{eq-zero-or-pos, le_trans, lt_of_lt_of_le, le_of_eq}
use native.Mathlib.Omega.{arith}
use borrow.Author.Tests.{eqb-true}
use lib.Dec.{T, eqb, eqb→eq}
use lib.ListN.{length}
use Rattle.lists.specs.Argmax.{guard}
use Rattle.tables.specs.declared.rule.Transition.{Transition}
use Rattle.tables.specs.Tables.{Book, Tables}
use Rattle.tables.specs.declared.load.Load.{Load}
use Rattle.meaning.specs.Forest.{Item, Forest, nil, node, planned, fixed_to, checked, row, tree, IsTree, total}
use Rattle.meaning.specs.Cell.{empty, ◌⊕◌, score, drawn, scored}
use Rattle.meaning.specs.Sets.{tree_of, counted, Allowed, Accepted}
use Rattle.meaning.specs.Best.{best, best_tree, best_check}
use Rattle.meaning.specs.Choice.{check, marks_of, assigned_by}
use Rattle.meaning.specs.Runs.{Assigned, rule, BranchRun, RowRun, Run, TreeRun}
use Rattle.meaning.specs.Acceptance.{Letter, letter_of, letter_for, Chain, Rewrites, AcceptsRow, Accepts}
use Rattle.meaning.proofs.Cell.{cell-pos, ⊕-empty}
use Rattle.meaning.proofs.Optimal.{and_intro, and-elim, eqb_of, Covers, branch-complete, row-complete, start-bound, complete, tree-sound}
use Rattle.meaning.proofs.Tree.{Rooted, tree-rooted}
use Rattle.meaning.specs.Order.{◌≼◌, tree_numbers}
use Rattle.meaning.proofs.Lowest.{tree-lowest}
use Rattle.meaning.proofs.Entries.{check-follows, once, tree-occurs}

-- the forest for the check of σ has the shape of the forest for planning
module _ (σ : ℕ → ℕ) where
  fixed : Forest → Forest
  fixed nil = nil
  fixed (node k i below later) = node k (fixed_to σ k i) (fixed below) (fixed later)

  fixed-row : (ls : List Load) (k p : ℕ) → fixed (row planned ls k p) ≡ row (checked σ) ls k p
  unfolding fixed row
  fixed-row [] k p = refl
  fixed-row (l ∷ ls) k p = go (eqb l.parent p) (fixed-row ls (suc k) k) (fixed-row ls (suc k) p)
    where
      go : (t : Bool) → fixed (row planned ls (suc k) k) ≡ row (checked σ) ls (suc k) k → fixed (row planned ls (suc k) p) ≡ row (checked σ) ls (suc k) p
          → fixed (cond t (node k (planned k l) (row planned ls (suc k) k) (row planned ls (suc k) p)) (row planned ls (suc k) p))
          ≡ cond t (node k (checked σ k l) (row (checked σ) ls (suc k) k) (row (checked σ) ls (suc k) p)) (row (checked σ) ls (suc k) p)
      go true e f = ap₂ (node k (checked σ k l)) e f
      go false e f = f

  fixed-tree : (ls : List Load) → fixed (tree planned ls) ≡ tree (checked σ) ls
  unfolding fixed tree
  fixed-tree [] = refl
  fixed-tree (l ∷ ls) = ap (λ f. node 1 (checked σ 1 l) f nil) (fixed-row ls 2 1)

-- with no figures no allowance is needed
counted-zero : (m : ℕ) → counted m 0 ≡ 0
counted-zero zero = refl
counted-zero (suc m) = refl

fixed-drawn : (σ τ : ℕ → ℕ) (f : Forest) → drawn τ (fixed σ f) ≡ 0
unfolding fixed total
fixed-drawn σ τ nil = refl
fixed-drawn σ τ (node k i below later) = omega (arith, counted-zero (τ k), fixed-drawn σ τ below, fixed-drawn σ τ later)

-- and every set has the cell of the empty set
fixed-scored : (σ τ : ℕ → ℕ) (f : Forest) → scored τ (fixed σ f) ≡ empty
unfolding fixed scored
fixed-scored σ τ nil = refl
fixed-scored σ τ (node k i below later) =
    rw (counted-zero (τ k), fixed-scored σ τ below, fixed-scored σ τ later, ⊕-empty empty) (⊕-empty empty)

module _ (b : Book) (σ : ℕ → ℕ) where
  unfix-branch : (m k n : ℕ) (i : Item) (R R' : ℕ → Type 0) → ((g : ℕ) → R g → R' g)
      → (q : ℕ) → BranchRun b m n (fixed_to σ k i) R q → BranchRun b (σ k) n i R' q
  unfix-branch m k n i R R' f q r =
      let a = and-elim (i.serves (rule b.load_rules n)) (eqb (rule b.load_rules n).label (σ k)) r.serves in
      record { begins = r.begins; mark = eqb→eq _ _ a.1; serves = a.0; runs = f _ r.runs }

  fix-branch : (k n : ℕ) (i : Item) (R R' : ℕ → Type 0) → ((g : ℕ) → R g → R' g)
      → (q : ℕ) → BranchRun b (σ k) n i R q → BranchRun b (σ k) n (fixed_to σ k i) R' q
  fix-branch k n i R R' f q r =
      record {
        begins = r.begins;
        mark = r.mark;
        runs = f _ r.runs;
        serves = and_intro (i.serves (rule b.load_rules n)) (eqb (rule b.load_rules n).label (σ k)) r.serves (eqb_of _ _ r.mark);
      }

  row-map : (n q : ℕ) (B B' L L' : ℕ → Type 0) → ((g : ℕ) → B g → B' g) → ((g : ℕ) → L g → L' g)
      → (g : ℕ) → RowRun b n q B L g → RowRun b n q B' L' g
  row-map n q B B' L L' f h g r = record { begins = r.begins; state = r.state; branches = f _ r.branches; goes = h _ r.goes }

  unfix : (τ : ℕ → ℕ) (ρ : ℕ → Assigned) (f : Forest) → (g : ℕ) → Run b τ ρ (fixed σ f) g → Run b σ ρ f g
  unfolding fixed
  unfix τ ρ nil = λ g r. r
  unfix τ ρ (node k i below later) =
      row-map _ _ _ _ _ _ (unfix-branch (τ k) k (ρ k).load_rule i _ _ (unfix τ ρ below)) (unfix τ ρ later)

  unfix-tree : (τ : ℕ → ℕ) (ρ : ℕ → Assigned) (f : Forest) → TreeRun b τ ρ (fixed σ f) → TreeRun b σ ρ f
  unfolding fixed
  unfix-tree τ ρ nil r = r
  unfix-tree τ ρ (node k i below later) r = (r.0, r.1, unfix-branch (τ k) k (ρ k).load_rule i _ _ (unfix τ ρ below) _ r.2)

  -- and back, where the run is one of σ
  fix : (ρ : ℕ → Assigned) (f : Forest) → (g : ℕ) → Run b σ ρ f g → Run b σ ρ (fixed σ f) g
  unfolding fixed
  fix ρ nil = λ g r. r
  fix ρ (node k i below later) = row-map _ _ _ _ _ _ (fix-branch k (ρ k).load_rule i _ _ (fix ρ below)) (fix ρ later)

  fix-tree : (ρ : ℕ → Assigned) (f : Forest) → TreeRun b σ ρ f → TreeRun b σ ρ (fixed σ f)
  unfolding fixed
  fix-tree ρ nil r = r
  fix-tree ρ (node k i below later) r = (r.0, r.1, fix-branch k (ρ k).load_rule i _ _ (fix ρ below) _ r.2)

-- in a run of the forest for the check of σ every load has σ's mark
module _ (b : Book) (σ τ : ℕ → ℕ) (ρ : ℕ → Assigned) where
  own-mark : (k n : ℕ) (i : Item) (R : ℕ → Type 0) (q : ℕ) → BranchRun b (τ k) n (fixed_to σ k i) R q → τ k ≡ σ k
  own-mark k n i R q r =
      let a = and-elim (i.serves (rule b.load_rules n)) (eqb (rule b.load_rules n).label (σ k)) r.serves in
      sym r.mark ∙ eqb→eq _ _ a.1

  -- by where the number occurs
  somewhere : (n k x y : ℕ) → τ k ≡ σ k → (0 < x → τ n ≡ σ n) → (0 < y → τ n ≡ σ n) → 0 < once n k + x + y → τ n ≡ σ n
  somewhere n k x y e f g h = go (eqb k n) refl (eq-zero-or-pos x)
    where
      go : (t : Bool) → eqb k n ≡ t → (x ≡ 0) ⊎ (0 < x) → τ n ≡ σ n
      go true q z = rw (← (eqb-true k n q)) e
      go false q (inr l) = f l
      go false q (inl z) = g (omega (arith, ap (λ t. guard t 1) q))

  fixed-agree : (f : Forest) (g : ℕ) → Run b τ ρ (fixed σ f) g → (n : ℕ) → 0 < total (λ k i. once n k) f → τ n ≡ σ n
  unfolding fixed total
  fixed-agree nil g r n h = absurd (omega arith)
  fixed-agree (node k i below later) g r n h =
      somewhere n k (total (λ k i. once n k) below) (total (λ k i. once n k) later)
      (own-mark k (ρ k).load_rule i (Run b τ ρ (fixed σ below)) (ρ k).state r.branches)
      (fixed-agree below (rule b.load_rules (ρ k).load_rule).to r.branches.runs n)
      (fixed-agree later (rule b.row_rules (ρ k).row_rule).to r.goes n) h

  fixed-tree-agree : (f : Forest) → Rooted f → TreeRun b τ ρ (fixed σ f) → (n : ℕ) → 0 < total (λ k i. once n k) f → τ n ≡ σ n
  unfolding fixed total
  fixed-tree-agree nil o r n h = absurd r
  fixed-tree-agree (node k i below nil) o r n h =
      somewhere n k (total (λ k i. once n k) below) 0
      (own-mark k (ρ k).load_rule i (Run b τ ρ (fixed σ below)) (ρ k).state r.2)
      (fixed-agree below (rule b.load_rules (ρ k).load_rule).to r.2.runs n)
      (λ z. absurd (omega arith)) h
  fixed-tree-agree (node k i below (node k' i' below' later')) o r n h = absurd o

-- ---- rules that serve loads of their kind
-- the rules that serve an item are those of its kind
abbrev OwnKind : Item → Type 0
OwnKind i = (r : Transition) → i.serves r ≡ eqb r.kind i.kind

abbrev OwnKinds : Forest → Type 0
OwnKinds nil = Unit {0}
OwnKinds (node k i below later) = OwnKind i × OwnKinds below × OwnKinds later

row-kinds : (ls : List Load) (k p : ℕ) → OwnKinds (row planned ls k p)
unfolding row
row-kinds [] k p = tt
row-kinds (l ∷ ls) k p = go (eqb l.parent p) (row-kinds ls (suc k) k) (row-kinds ls (suc k) p)
  where
    go : (t : Bool) → OwnKinds (row planned ls (suc k) k) → OwnKinds (row planned ls (suc k) p)
        → OwnKinds (cond t (node k (planned k l) (row planned ls (suc k) k) (row planned ls (suc k) p)) (row planned ls (suc k) p))
    go true below later = (λ r. refl, below, later)
    go false below later = later

tree-kinds : (ls : List Load) → OwnKinds (tree planned ls)
unfolding tree
tree-kinds [] = tt
tree-kinds (l ∷ ls) = (λ r. refl, row-kinds ls 2 1, tt)

-- a rule that serves is for the load's letter, and the other way round
serves-letter : (i : Item) → OwnKind i → (r : Transition) (m : ℕ) → r.label ≡ m → T (i.serves r) → letter_for r ≡ letter_of i m
serves-letter i own r m e s = let k = eqb→eq r.kind i.kind (rw (own r) at s) in λ x. record { kind = k x; mark = e x }

letter-serves : (i : Item) → OwnKind i → (r : Transition) (m : ℕ) → letter_for r ≡ letter_of i m → T (i.serves r)
letter-serves i own r m e = rw (own r) (eqb_of r.kind i.kind (ap (λ (x : Letter). x.kind) e))

-- acceptance from a stage: some states of the roots, with a chain of row rules
abbrev Derives : Book → (ℕ → ℕ) → Forest → ℕ → Type 0
Derives b σ f g = (qs : List ℕ) × Chain b g qs × AcceptsRow b σ f qs

module _ (b : Book) (σ : ℕ → ℕ) where
  -- what acceptance says of a branch and of a place in a row is what a run says of it
  rewrites-branch : (k : ℕ) (i : Item) → OwnKind i → (below : Forest) (q : ℕ) (rs : List ℕ) → (w : Rewrites b (letter_of i (σ k)) q rs) → AcceptsRow b σ below rs
      → BranchRun b (σ k) w.0 (fixed_to σ k i) (Derives b σ below) q
  rewrites-branch k i own below q rs w a =
      fix-branch b σ k w.0 i (Derives b σ below) (Derives b σ below) (λ g d. d) q
      (record {
        begins = w.1;
        mark = ap (λ (x : Letter). x.mark) w.2;
        serves = letter-serves i own (rule b.load_rules w.0) (σ k) w.2;
        runs = (rs, w.3, a);
      })

  derives-cover : (k : ℕ) (i : Item) → OwnKind i → (below later : Forest)
      → Covers (best b (fixed σ below)) (Derives b σ below) (drawn σ (fixed σ below)) (scored σ (fixed σ below))
      → Covers (best b (fixed σ later)) (Derives b σ later) (drawn σ (fixed σ later)) (scored σ (fixed σ later))
      → (g c : ℕ) (qs : List ℕ) → Chain b g qs → AcceptsRow b σ (node k i below later) qs → drawn σ (fixed σ (node k i below later)) ≤ c
      → scored σ (fixed σ (node k i below later)) ≤ best b (fixed σ (node k i below later)) g c
  unfolding fixed best total scored
  derives-cover k i own below later hb hl g c [] ch a h = absurd a
  derives-cover k i own below later hb hl g c (q ∷ qs) ch a h =
      row-complete b _ _ _ _ _ _ _ _
      (branch-complete b (fixed_to σ k i) _ (Derives b σ below) _ _ hb (σ k) a.0.1.0)
      hl ch.0 q g c
      (record { begins = ch.1; state = ch.2; branches = rewrites-branch k i own below q a.0.0 a.0.1 a.0.2; goes = (qs, ch.3, a.1) })
      h

  accepts-cover : (f : Forest) → OwnKinds f → Covers (best b (fixed σ f)) (Derives b σ f) (drawn σ (fixed σ f)) (scored σ (fixed σ f))
  unfolding fixed best scored total
  accepts-cover nil own = λ g c d h. empty-cover g c d.0 d.1 d.2
    where
      empty-cover : (g c : ℕ) (qs : List ℕ) → Chain b g qs → AcceptsRow b σ nil qs → scored σ nil ≤ best b nil g c
      empty-cover g c [] ch a = complete b σ (λ k. record { state = 0; load_rule = 0; row_rule = 0 }) nil g c ch zero-le
      empty-cover g c (q ∷ qs) ch a = absurd a
  accepts-cover (node k i below later) own = λ g c d h.
      derives-cover k i own.0 below later (accepts-cover below own.1) (accepts-cover later own.2) g c d.0 d.1 d.2 h

  accepts-cell : (f : Forest) → OwnKinds f → Rooted f → Accepts b σ f → scored σ (fixed σ f) ≤ best_tree b (fixed σ f) 0
  unfolding fixed best_tree scored
  accepts-cell nil own o a = absurd a
  accepts-cell (node k i below nil) own o a =
      rw (⊕-empty (score (fixed_to σ k i) (σ k) ⊕ scored σ (fixed σ below)))
      (le_trans (branch-complete b (fixed_to σ k i) (best b (fixed σ below)) (Derives b σ below) _ _ (accepts-cover below own.1) (σ k) a.3.0 a.0 0
      (rewrites-branch k i own.0 below a.0 a.2 a.3 a.4)
      (omega (arith, counted-zero (σ k), fixed-drawn σ σ below)))
      (start-bound b (fixed_to σ k i) (best b (fixed σ below)) 0 a.0 a.1))
  accepts-cell (node k i below (node k' i' below' later')) own o a = absurd o

  -- a run is accepted
  run-rewrites : (k : ℕ) (i : Item) → OwnKind i → (below : ℕ → Type 0) (n q : ℕ) → BranchRun b (σ k) n i below q → letter_for (rule b.load_rules n) ≡ letter_of i (σ k)
  run-rewrites k i own below n q r = serves-letter i own (rule b.load_rules n) (σ k) r.mark r.serves

  run-derives : (ρ : ℕ → Assigned) (f : Forest) → OwnKinds f → (g : ℕ) → Run b σ ρ f g → Derives b σ f g
  run-derives ρ nil own g r = ([], r, tt)
  run-derives ρ (node k i below later) own g r =
      let d = run-derives ρ below own.1 (rule b.load_rules (ρ k).load_rule).to r.branches.runs in
      let l = run-derives ρ later own.2 (rule b.row_rules (ρ k).row_rule).to r.goes in (
        (ρ k).state ∷ l.0,
        ((ρ k).row_rule, r.begins, r.state, l.1),
        ((d.0, ((ρ k).load_rule, r.branches.begins, run-rewrites k i own.0 (Run b σ ρ below) (ρ k).load_rule (ρ k).state r.branches, d.1), d.2), l.2),
      )

  run-accepts : (ρ : ℕ → Assigned) (f : Forest) → OwnKinds f → TreeRun b σ ρ f → Accepts b σ f
  run-accepts ρ nil own r = r
  run-accepts ρ (node k i below later) own r =
      let d = run-derives ρ below own.1 (rule b.load_rules (ρ k).load_rule).to r.2.runs in
      ((ρ k).state, r.0, d.0, ((ρ k).load_rule, r.2.begins, run-rewrites k i own.0 (Run b σ ρ below) (ρ k).load_rule (ρ k).state r.2, d.1), d.2)

module _ (t : Tables) (o : IsTree t.loads) (σ : ℕ → ℕ) where
  -- the entries that the check finds are a run of the forest for the check
  check_sound : 0 < best_check t σ
      → TreeRun t.book (marks_of (check t σ)) (assigned_by (check t σ)) (fixed σ (tree_of t))
      × (scored (marks_of (check t σ)) (fixed σ (tree_of t)) ≡ best_check t σ)
  unfolding best_check check
  check_sound h =
      let s = tree-sound t.book (marks_of (check t σ)) (assigned_by (check t σ)) (tree (checked σ) t.loads) (tree-rooted (checked σ) t.loads) 0 h (check-follows t o σ) in
      rw (fixed-tree σ t.loads) (s.0, s.2)

  -- and so a run of the set
  pub check-run : 0 < best_check t σ → TreeRun t.book σ (assigned_by (check t σ)) (tree_of t)
  check-run h = unfix-tree t.book σ (marks_of (check t σ)) (assigned_by (check t σ)) (tree_of t) (check_sound h).0

  -- in which every load has its mark
  pub check-marks : 0 < best_check t σ → (n : ℕ) → 0 < n → n ≤ length t.loads → marks_of (check t σ) n ≡ σ n
  check-marks h n a l =
      fixed-tree-agree t.book σ (marks_of (check t σ)) (assigned_by (check t σ)) (tree_of t) (tree-rooted planned t.loads) (check_sound h).0
      n (omega (arith, tree-occurs t.book planned t.loads o 0 n a l))

  -- it finds one where the automaton accepts
  pub check-finds : Accepted t σ → 0 < best_check t σ
  unfolding best_check
  check-finds a =
      let some = accepts-cell t.book σ (tree_of t) (tree-kinds t.loads) (tree-rooted planned t.loads) a in
      rw (← (fixed-tree σ t.loads)) (lt_of_lt_of_le (cell-pos 0 0 (omega arith)) (rw (fixed-scored σ σ (tree_of t)) at some))

  pub allowed-accepted : Allowed t σ ↔ Accepted t σ
  allowed-accepted = (λ a. run-accepts t.book σ a.0 (tree_of t) (tree-kinds t.loads) a.1, λ a. (assigned_by (check t σ), check-run (check-finds a)))

  pub check-allowed : (0 < best_check t σ) ↔ Accepted t σ
  check-allowed = (λ h. allowed-accepted.0 (assigned_by (check t σ), check-run h), check-finds)

  -- the run is the lowest of the set's runs
  pub check-lowest : 0 < best_check t σ → (ρ : ℕ → Assigned) → TreeRun t.book σ ρ (tree_of t)
      → tree_numbers (marks_of (check t σ)) (assigned_by (check t σ)) (tree (checked σ) t.loads) ≼ tree_numbers σ ρ (tree (checked σ) t.loads)
  unfolding best_check check
  check-lowest h ρ r =
      let e = fixed-tree σ t.loads in
      tree-lowest t.book (marks_of (check t σ)) (assigned_by (check t σ)) σ ρ (tree (checked σ) t.loads) (tree-rooted (checked σ) t.loads) 0 h (check-follows t o σ)
      (rw (← e) (fix-tree t.book σ ρ (tree_of t) r))
      (rw (← e) (le_of_eq (fixed-drawn σ σ (tree_of t))))
      (ap (scored σ) (sym e) ∙ fixed-scored σ σ (tree_of t) ∙ sym (fixed-scored σ (marks_of (check t σ)) (tree_of t)) ∙ (check_sound h).1)
