-- The search is complete and sound.
-- Assumes nothing.
use Prim.Native.Nat.{ℕ, zero, suc, ◌+◌, ◌-◌, ◌≤◌, ◌<◌, zero-le}
use mathlib.Core.Path.{◌≡◌, refl, sym, ap, subst, ◌∙◌}
use mathlib.Core.Bool.{Bool, true, false, ◌&&◌}
use mathlib.Core.List.{List, [], ◌∷◌, ◌++◌}
use native.Mathlib.Nat.{le_refl, le_trans, le_of_eq}
use native.Mathlib.Omega.{arith}
use lib.Dec.{T, eqb, leb, eqb→eq, eqb_refl, le→leb, leb→le}
use lib.ListN.{length}
use Rattle.lists.specs.Argmax.{guard}
use Rattle.lists.proofs.Argmax.{argmax-bound, argmax-found}
use Rattle.tables.specs.declared.rule.Transition.{Transition}
use Rattle.tables.specs.Tables.{Book}
use Rattle.meaning.specs.Runs.{is_start, is_end, rule_at, Assigned, rule, Begins, Starts, BranchRun, RowRun, Run, TreeRun}
use Rattle.meaning.specs.Forest.{Item, Forest, nil, node, total}
use Rattle.meaning.specs.Cell.{empty, ◌⊕◌, draw, score, drawn, scored}
use Rattle.meaning.specs.Best.{best_rule, load_reach, row_reach, shares, load_rule_for, row_rule_for, branch_cell, row_cell, best, start_for, best_tree}
use Rattle.tables.specs.declared.entry.Entry.{Entry}
use Rattle.meaning.specs.Choice.{choose_branch, choose, choose_tree, Follows}
use Rattle.meaning.proofs.Tree.{Rooted}
use Rattle.meaning.proofs.Cell.{⊕-mono, ⊕-pos, ⊕-empty}

pub guard-pass : (t : Bool) (x : ℕ) → T t → guard t x ≡ x
guard-pass true x h = refl
guard-pass false x h = absurd h

pub guard-pos : (t : Bool) (x : ℕ) → 0 < guard t x → T t × (0 < x) × (guard t x ≡ x)
guard-pos true x h = (tt, h, refl)
guard-pos false x h = absurd (omega arith)

pub and_intro : (s t : Bool) → T s → T t → T (s && t)
and_intro true t h k = k
and_intro false t h k = h

pub and-elim : (s t : Bool) → T (s && t) → T s × T t
and-elim true t h = (tt, h)
and-elim false t h = absurd h

-- rules of both sorts

pub eqb_of : (m n : ℕ) → m ≡ n → T (eqb m n)
eqb_of m n e = subst (λ (k : ℕ). T (eqb m k)) e (eqb_refl m)

rule-bound : (ts : List Transition) (x : ℕ) (reach : Transition → ℕ) (n : ℕ) → Begins ts n x → reach (rule ts n) ≤ (best_rule ts x reach).value
rule-bound ts x reach zero h = absurd h
rule-bound ts x reach (suc j) h =
    le_trans (le_of_eq (sym (guard-pass (eqb (rule_at ts j).from x) (reach (rule_at ts j)) (eqb_of _ _ h.1))))
    (argmax-bound (λ j. guard (eqb (rule_at ts j).from x) (reach (rule_at ts j))) (length ts) j h.0)

pub rule_found : (ts : List Transition) (x : ℕ) (reach : Transition → ℕ) → 0 < (best_rule ts x reach).value
    → Begins ts (suc (best_rule ts x reach).index) x × (reach (rule_at ts (best_rule ts x reach).index) ≡ (best_rule ts x reach).value)
rule_found ts x reach h =
    let j = (best_rule ts x reach).index in
    let p = argmax-found (λ j. guard (eqb (rule_at ts j).from x) (reach (rule_at ts j))) (length ts) h in
    let g = guard-pos (eqb (rule_at ts j).from x) (reach (rule_at ts j)) (rw p.1 h) in
    ((p.0, eqb→eq _ _ g.0), sym g.2 ∙ p.1)

-- v is at most the cell wherever R holds and the allowance is at least p
abbrev pub Covers : (ℕ → ℕ → ℕ) → (ℕ → Type 0) → ℕ → ℕ → Type 0
Covers cell R p v = (x c : ℕ) → R x → p ≤ c → v ≤ cell x c

pub with_bound : (i : Item) (below : ℕ → ℕ → ℕ) (c : ℕ) (t : Transition) (m v : ℕ) → t.label ≡ m → T (i.serves t) → draw i m ≤ c
    → v ≤ below t.to (c - draw i m) → score i m ⊕ v ≤ load_reach i below c t
with_bound i below c t m v e s =
    subst (λ (m : ℕ). draw i m ≤ c → v ≤ below t.to (c - draw i m) → score i m ⊕ v ≤ load_reach i below c t) e
    (λ d h. le_trans (⊕-mono (score i t.label) (score i t.label) v (below t.to (c - draw i t.label)) (le_refl _) h)
    (le_of_eq (sym (guard-pass (i.serves t && leb (draw i t.label) c) (score i t.label ⊕ below t.to (c - draw i t.label))
    (and_intro (i.serves t) (leb (draw i t.label) c) s (le→leb (draw i t.label) c d))))))

module _ (b : Book) where
  pub branch-complete : (i : Item) (below : ℕ → ℕ → ℕ) (R : ℕ → Type 0) (p v : ℕ) → Covers below R p v
      → (m n : ℕ) → Covers (branch_cell b i below) (BranchRun b m n i R) (draw i m + p) (score i m ⊕ v)
  branch-complete i below R p v ih m n q c r h =
      le_trans (with_bound i below c (rule b.load_rules n) m v r.mark r.serves (omega arith) (ih _ _ r.runs (omega arith)))
      (rule-bound b.load_rules q (load_reach i below c) n r.begins)

  pub row-complete : (branch later : ℕ → ℕ → ℕ) (B L : ℕ → Type 0) (p v p' v' : ℕ) → Covers branch B p v → Covers later L p' v'
      → (n q : ℕ) → Covers (row_cell b branch later) (RowRun b n q B L) (p + p') (v ⊕ v')
  row-complete branch later B L p v p' v' ihb ihl n q g c r h =
      let t = rule b.row_rules n in
      le_trans (⊕-mono v (branch t.label p) v' (later t.to (c - p)) (ihb _ _ (subst B (sym r.state) r.branches) (le_refl p)) (ihl _ _ r.goes (omega arith)))
      (le_trans (argmax-bound (λ a. branch t.label a ⊕ later t.to (c - a)) (suc c) p (omega arith))
      (rule-bound b.row_rules g (row_reach branch later c) n r.begins))

  pub start-bound : (i : Item) (below : ℕ → ℕ → ℕ) (c q : ℕ) → Starts b q → branch_cell b i below q c ≤ (start_for b i below c).value
  start-bound i below c zero h = absurd h
  start-bound i below c (suc s) h =
      le_trans (le_of_eq (sym (guard-pass (is_start b (suc s)) (branch_cell b i below (suc s) c) h.1)))
      (argmax-bound (λ s. guard (is_start b (suc s)) (branch_cell b i below (suc s) c)) b.states s h.0)

  module _ (σ : ℕ → ℕ) (ρ : ℕ → Assigned) where
    -- every run within the allowance is covered
    pub complete : (f : Forest) → Covers (best b f) (Run b σ ρ f) (drawn σ f) (scored σ f)
    unfolding best total scored
    complete nil = λ g c r h. le_of_eq (sym (guard-pass (is_end b g) empty r))
    complete (node k i below later) =
        row-complete (branch_cell b i (best b below)) (best b later) _ _ _ _ _ _
        (branch-complete i (best b below) (Run b σ ρ below) _ _ (complete below) (σ k) (ρ k).load_rule)
        (complete later) (ρ k).row_rule (ρ k).state

    pub tree-complete : (f : Forest) → Rooted f → (c : ℕ) → TreeRun b σ ρ f → drawn σ f ≤ c → scored σ f ≤ best_tree b f c
    unfolding best_tree total scored
    tree-complete nil o c r h = absurd r
    tree-complete (node k i below nil) o c r h =
        rw (⊕-empty (score i (σ k) ⊕ scored σ below))
        (le_trans (branch-complete i (best b below) (Run b σ ρ below) _ _ (complete below) (σ k) (ρ k).load_rule (ρ k).state c r.2 (omega arith))
        (start-bound i (best b below) c (ρ k).state r.0))
    tree-complete (node k i below (node k' i' below' later')) o c r h = absurd o

-- what the entries list runs, within the allowance, and scores the cell
abbrev Attains : (ℕ → ℕ) → (ℕ → Assigned) → (ℕ → ℕ → ℕ) → (ℕ → ℕ → List Entry) → (ℕ → Type 0) → ℕ → ℕ → Type 0
Attains σ ρ cell entries R p v = (x c : ℕ) → 0 < cell x c → Follows σ ρ (entries x c) → R x × (p ≤ c) × (v ≡ cell x c)

pub follows-split : (σ : ℕ → ℕ) (ρ : ℕ → Assigned) (xs ys : List Entry) → Follows σ ρ (xs ++ ys) → Follows σ ρ xs × Follows σ ρ ys
follows-split σ ρ [] ys h = (tt, h)
follows-split σ ρ (x ∷ xs) ys h = let r = follows-split σ ρ xs ys h.2 in ((h.0, h.1, r.0), r.1)

-- the share that a row rule gives the branch
abbrev pub share_of : (branch later : ℕ → ℕ → ℕ) → ℕ → Transition → ℕ
share_of branch later c r = (shares (branch r.label) (later r.to) c).index

-- what the chosen row rule and share reach
pub record ShareFound (branch later : ℕ → ℕ → ℕ) (c : ℕ) (r : Transition) (v : ℕ) : Type 0 where
  pub share : share_of branch later c r ≤ c
  pub pos-branch : 0 < branch r.label (share_of branch later c r)
  pub pos-later : 0 < later r.to (c - share_of branch later c r)
  pub reaches : branch r.label (share_of branch later c r) ⊕ later r.to (c - share_of branch later c r) ≡ v

pub share-found : (b : Book) (branch later : ℕ → ℕ → ℕ) (g c : ℕ) → 0 < row_cell b branch later g c
    → Begins b.row_rules (suc (row_rule_for b branch later g c).index) g
    × ShareFound branch later c (rule_at b.row_rules (row_rule_for b branch later g c).index) (row_cell b branch later g c)
share-found b branch later g c h =
    let r = rule_at b.row_rules (row_rule_for b branch later g c).index in
    let found = rule_found b.row_rules g (row_reach branch later c) h in
    let share = argmax-found (λ a. branch r.label a ⊕ later r.to (c - a)) (suc c) (subst (λ (x : ℕ). 0 < x) (sym found.1) h) in
    let e : branch r.label (share_of branch later c r) ⊕ later r.to (c - share_of branch later c r) ≡ row_cell b branch later g c = share.1 ∙ found.1 in
    let pos = ⊕-pos (branch r.label (share_of branch later c r)) (later r.to (c - share_of branch later c r)) (subst (λ (x : ℕ). 0 < x) (sym e) h) in
    (found.0, record { share = omega (arith, share.0); pos-branch = pos.0; pos-later = pos.1; reaches = e })

-- what the chosen start state reaches
pub start-found : (b : Book) (i : Item) (below : ℕ → ℕ → ℕ) (c : ℕ) → 0 < (start_for b i below c).value
    → Starts b (suc (start_for b i below c).index) × (branch_cell b i below (suc (start_for b i below c).index) c ≡ (start_for b i below c).value)
start-found b i below c h =
    let s = (start_for b i below c).index in
    let found = argmax-found (λ s. guard (is_start b (suc s)) (branch_cell b i below (suc s) c)) b.states h in
    let g = guard-pos (is_start b (suc s)) (branch_cell b i below (suc s) c) (subst (λ (x : ℕ). 0 < x) (sym found.1) h) in
    ((found.0, g.0), sym g.2 ∙ found.1)

-- a load with the mark, state and rules that were chosen for it
pub record BranchSound (b : Book) (i : Item) (R : ℕ → Type 0) (p v cell : ℕ) (r q c m : ℕ) (h : Assigned) : Type 0 where
  pub run : BranchRun b m h.load_rule i R q
  pub state : h.state ≡ q
  pub row_rule : h.row_rule ≡ r
  pub fits : draw i m + p ≤ c
  pub scores : score i m ⊕ v ≡ cell

module _ (b : Book) (σ : ℕ → ℕ) (ρ : ℕ → Assigned) where
  pub branch-sound : (k : ℕ) (i : Item) (below : ℕ → ℕ → ℕ) (entries : ℕ → ℕ → List Entry) (R : ℕ → Type 0) (p v : ℕ)
      → Attains σ ρ below entries R p v
      → (r q c : ℕ) → 0 < branch_cell b i below q c → Follows σ ρ (choose_branch b k i below entries r q c)
      → BranchSound b i R p v (branch_cell b i below q c) r q c (σ k) (ρ k)
  branch-sound k i below entries R p v ih r q c h fol =
      let j = (load_rule_for b i below q c).index in
      let t = rule_at b.load_rules j in
      let found = rule_found b.load_rules q (load_reach i below c) h in
      let g = guard-pos (i.serves t && leb (draw i t.label) c) (score i t.label ⊕ below t.to (c - draw i t.label))
      (subst (λ (x : ℕ). 0 < x) (sym found.1) h) in
      let a = and-elim (i.serves t) (leb (draw i t.label) c) g.0 in
      let n = ih t.to (c - draw i t.label) (⊕-pos _ _ g.1).1 fol.2 in
      rw (fol.0, fol.1)
      (record {
        run = record { begins = found.0; mark = refl; serves = a.0; runs = n.0 };
        state = refl;
        row_rule = refl;
        fits = omega (arith, leb→le (draw i t.label) c a.1, n.1);
        scores = ap (λ (x : ℕ). score i t.label ⊕ x) n.2 ∙ sym g.2 ∙ found.1;
      })

  -- the chosen entries of a row are a run of the best cell
  pub sound : (f : Forest) → Attains σ ρ (best b f) (choose b f) (Run b σ ρ f) (drawn σ f) (scored σ f)
  unfolding best choose total scored
  sound nil = λ g c h fol. let r = guard-pos (is_end b g) empty h in (r.0, zero-le, sym r.2)
  sound (node k i below later) = λ g c h fol.
      let branch = branch_cell b i (best b below) in
      let j = (row_rule_for b branch (best b later) g c).index in
      let r = rule_at b.row_rules j in
      let a = share_of branch (best b later) c r in
      let found = share-found b branch (best b later) g c h in
      let fols = follows-split σ ρ (choose_branch b k i (best b below) (choose b below) (suc j) r.label a) (choose b later r.to (c - a)) fol in
      let s = branch-sound k i (best b below) (choose b below) (Run b σ ρ below) (drawn σ below) (scored σ below) (sound below)
      (suc j) r.label a found.1.pos-branch fols.0 in
      let l = sound later r.to (c - a) found.1.pos-later fols.1 in (
        record {
          begins = subst (λ (n : ℕ). Begins b.row_rules n g) (sym s.row_rule) found.0;
          state = ap (λ (n : ℕ). (rule b.row_rules n).label) s.row_rule ∙ sym s.state;
          branches = subst (BranchRun b (σ k) (ρ k).load_rule i (Run b σ ρ below)) (sym s.state) s.run;
          goes = subst (λ (n : ℕ). Run b σ ρ later (rule b.row_rules n).to) (sym s.row_rule) l.0;
        },
        omega (arith, found.1.share, s.fits, l.1),
        ap (λ (x : ℕ). x ⊕ scored σ later) s.scores ∙ ap (λ (x : ℕ). branch r.label a ⊕ x) l.2 ∙ found.1.reaches,
      )

  -- and so are those of a tree
  pub tree-sound : (f : Forest) → Rooted f → (c : ℕ) → 0 < best_tree b f c → Follows σ ρ (choose_tree b f c)
      → TreeRun b σ ρ f × (drawn σ f ≤ c) × (scored σ f ≡ best_tree b f c)
  unfolding best_tree choose_tree total scored
  tree-sound nil o c h fol = absurd (omega arith)
  tree-sound (node k i below nil) o c h fol =
      let s = (start_for b i (best b below) c).index in
      let found = start-found b i (best b below) c h in
      let r = branch-sound k i (best b below) (choose b below) (Run b σ ρ below) (drawn σ below) (scored σ below) (sound below)
      0 (suc s) c (rw found.1 h) fol in (
        (
          subst (Starts b) (sym r.state) found.0,
          r.row_rule,
          subst (BranchRun b (σ k) (ρ k).load_rule i (Run b σ ρ below)) (sym r.state) r.run,
        ),
        omega (arith, r.fits),
        ⊕-empty _ ∙ r.scores ∙ found.1,
      )
  tree-sound (node k i below (node k' i' below' later')) o c h fol = absurd o
