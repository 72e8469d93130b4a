-- A stretch follows from the cells below it: the branch of a load from the rows of its children, and a row from that branch and the row
-- after it. Assumes nothing.
use Prim.Native.Nat.{ℕ, zero, suc, ◌+◌, ◌-◌, ◌≤◌, ◌<◌, zero-le}
use mathlib.Core.Path.{◌≡◌, refl, sym, ap, ◌∙◌}
use mathlib.Core.Bool.{Bool, cond}
use mathlib.Core.Logic.{◌⊎◌, inl, inr}
use mathlib.Core.List.{List}
use Rattle.std.specs.Prelude.{Option, None, Some}
use native.Mathlib.Nat.{le_trans}
use native.Mathlib.Numerals.{add-one}
use native.Mathlib.Omega.{arith}
use native.Mathlib.Decide.{dec_le}
use borrow.Author.Tests.{lt-ltb, le-ltb, lt-leb, le-leb, leb-true}
use lib.ListN.{length, get_or}
use Rattle.lists.specs.Tests.{pick}
use Rattle.lists.specs.Argmax.{Greatest}
use Rattle.marks.specs.declared.LoadSet.{LoadSet}
use Rattle.tables.specs.Tables.{no_load}
use Rattle.tables.specs.Stored.{book_of}
use Rattle.meaning.specs.Forest.{Item, after}
use Rattle.meaning.specs.Best.{load_reach, row_reach, load_rule_for, row_rule_for}
use Rattle.meaning.specs.Cells.{load_at, first_child, next_sibling, branch_cells, row_cells}
use Rattle.meaning.proofs.Agree.{Grows, load-agree, row-agree, best-grows, branch-grows}
use Rattle.meaning.proofs.Bound.{Cheap, cell-grows, row_fits, branch_fits}
use Rattle.meaning.proofs.Cells.{row-end, row-cell}
use Rattle.meaning.proofs.Rows.{after-above}
use Rattle.cells.specs.declared.problem.Problem.{Problem}
use Rattle.cells.specs.declared.problem.Shape.{Shape}
use Rattle.cells.specs.declared.outline.Joint.{Joint}
use Rattle.cells.specs.Problem.{book_for, loads_for, items_if, items_for, item_of, shape_of, Lawful}
use Rattle.tables.specs.Limits.{max_worth}
use Rattle.cells.specs.Work.{place_of, cell_limit, held_in, held_branch, held_row, branch_for, row_for, cell_of, FilledTo}
use Rattle.cells.specs.Outline.{load_rules_at, row_rules_at, counts_at, child_in, sibling_in, item_in, rules_in, joint_in, best_in, Outlines}
use Rattle.cells.specs.Strip.{Rising}
use Rattle.cells.specs.Stretch.{reach_if, reach_of, Rises, Sound, reached}
use Rattle.cells.proofs.Numbers.{cell-fits, held_same}
use Rattle.cells.proofs.Tables.{loads-length, rule-to, rule-label}
use Rattle.cells.proofs.Places.{place-later, place-before}
use Rattle.cells.proofs.Rules.{listed-best}

-- a state's cell and a stage's
module _ (p : Problem) (k x a : ℕ) where
  abbrev either : Bool → ℕ
  either t = cond t (branch_for p k (suc x) a) (row_for p k (suc (x - (shape_of p).states)) a)

  pub cell-branch : x < (shape_of p).states → cell_of p k x a ≡ branch_for p k (suc x) a
  cell-branch h = ap either (lt-ltb x (shape_of p).states h)

  pub cell_row : (shape_of p).states ≤ x → cell_of p k x a ≡ row_for p k (suc (x - (shape_of p).states)) a
  cell_row h = ap either (le-ltb x (shape_of p).states h)

-- the best of the rules, by whether they are row rules
abbrev best_if : Shape → (o w : List ℕ) → (k x a : ℕ) → Bool → Greatest
best_if sh o w k x a b =
    best_in o (pick b (record { at = row_rules_at; count = get_or o (counts_at + 1) 0; from = x - sh.states + 1 }) (record { at = load_rules_at; count = get_or o counts_at 0; from = x + 1 }))
    (reach_if b sh w (record { branch = b; load = k; item = item_in o k; rest = pick b (sibling_in o k) (child_in o k) }) a)

module _ (p : Problem) (ok : Lawful p) where
  pub loads-long : length (loads_for p) ≡ (shape_of p).loads
  loads-long = loads-length p.tables.loads (omega (arith, ok.sane.loads, ok.loads.full))

  -- every cell fits
  cheap : Cheap (items_for p) max_worth (loads_for p)
  cheap k j = go p.set
    where
      go : (σ : Option LoadSet) → (items_if σ k (get_or (loads_for p) j no_load)).worth ≤ max_worth
      go None = ok.loads.worths j
      go (Some _) = zero-le

  pub row_small : (k g c : ℕ) → row_for p k g c < cell_limit
  row_small k g c =
      cell-fits (length (loads_for p)) _ (omega (arith, loads-long, ok.sane.loads))
      (le_trans (row_fits (book_for p) (items_for p) max_worth (loads_for p) ok.loads.ordered cheap ok.loads.parents k g c) (cell-grows 0 _ _ (omega arith)))

  pub branch-small : (j q c : ℕ) → branch_for p (suc j) q c < cell_limit
  branch-small j q c =
      cell-fits (length (loads_for p)) _ (omega (arith, loads-long, ok.sane.loads))
      (branch_fits (book_for p) (items_for p) max_worth (loads_for p) ok.loads.ordered cheap ok.loads.parents j q c)

  -- the cells of a load that stand below i are read as they are to be
  module _ (w : List ℕ) (i : ℕ) (h : FilledTo p w i) where
    pub row-held : (k : ℕ) → k ≤ (shape_of p).loads
        → ((x a : ℕ) → 0 < k → x < (shape_of p).states + (shape_of p).stages → a ≤ (shape_of p).budget → place_of (shape_of p) k x + a < i)
        → (g c : ℕ) → 0 < g → g ≤ (shape_of p).stages → c ≤ (shape_of p).budget → held_row (shape_of p) w k g c ≡ row_for p k g c
    unfolding book_of
    row-held zero l b g c m n o = sym (row-end (book_for p) (items_for p) (loads_for p) g c)
    row-held (suc j) l b g c m n o =
        ap held_in (h.at (suc j) ((shape_of p).states + (g - 1)) c (omega arith) l (omega arith) o (b _ c (omega arith) (omega arith) o)
        ∙ cell_row p (suc j) ((shape_of p).states + (g - 1)) c (omega arith) ∙ ap (λ z. row_for p (suc j) z c) (omega arith))
        ∙ held_same _ (row_small (suc j) g c)

    pub branch_held : (j : ℕ) → suc j ≤ (shape_of p).loads → (q c : ℕ) → 0 < q → q ≤ (shape_of p).states → c ≤ (shape_of p).budget
        → place_of (shape_of p) (suc j) (q - 1) + c < i → held_branch (shape_of p) w (suc j) q c ≡ branch_for p (suc j) q c
    branch_held j l q c m n o b =
        ap held_in (h.at (suc j) (q - 1) c (omega arith) l (omega arith) o b
        ∙ cell-branch p (suc j) (q - 1) c (omega arith) ∙ ap (λ z. branch_for p (suc j) z c) (omega arith))
        ∙ held_same _ (branch-small j q c)

  -- no cell falls as the allowance grows
  row-rises : (k : ℕ) → Grows (row_for p k)
  unfolding row_cells
  row-rises k = best-grows (book_for p) _

  branch-rises : (k : ℕ) → Grows (branch_for p k)
  unfolding branch_cells
  branch-rises k = branch-grows (book_for p) (items_for p k (load_at (loads_for p) k)) _ (row-rises (first_child (loads_for p) k))

  rising : (f : ℕ → ℕ) (cells : ℕ → ℕ → ℕ) (x to : ℕ) → Grows cells → ((c : ℕ) → c < to → f c ≡ cells x c) → Rising f to
  rising f cells x to g e c d l m = omega (arith, e c (omega arith), e d m, g x c d l)

  -- a stretch from the cells below it
  module _ (w : List ℕ) (j x : ℕ) (l : suc j ≤ (shape_of p).loads) (h : FilledTo p w (place_of (shape_of p) (suc j) x)) where
    -- the row of a child after the load
    later-held : (q k : ℕ) → k ≡ after (loads_for p) (suc j) q → (g c : ℕ) → 0 < g → g ≤ (shape_of p).stages → c ≤ (shape_of p).budget
        → held_row (shape_of p) w k g c ≡ row_for p k g c
    later-held q k e =
        let s = go (after-above (loads_for p) q (suc j)) in
        row-held w _ h k s.0 (λ x' a o m n. place-later (shape_of p) (suc j) k x x' a (s.1 o) s.0 m n)
      where
        go : (after (loads_for p) (suc j) q ≡ 0) ⊎ ((suc j < after (loads_for p) (suc j) q) × (after (loads_for p) (suc j) q ≤ length (loads_for p)))
            → (k ≤ (shape_of p).loads) × (0 < k → suc j < k)
        go (inl z) = (omega arith, λ o. absurd (omega arith))
        go (inr z) = (omega (arith, loads-long, z.1), λ o. omega (arith, z.0))

    -- the cells that a row is made of
    own : (q c : ℕ) → 0 < q → q ≤ (shape_of p).states → c ≤ (shape_of p).budget → (shape_of p).states ≤ x
        → held_branch (shape_of p) w (suc j) q c ≡ branch_for p (suc j) q c
    own q c u v o s = branch_held w _ h j l q c u v o (place-before (shape_of p) (suc j) x (q - 1) c (omega arith) o)

    rises : (t : Joint) (to : ℕ) → t.load ≡ suc j → t.rest ≡ next_sibling (loads_for p) (suc j) → (shape_of p).states ≤ x → to ≤ (shape_of p).budget + 1
        → Rises (shape_of p) w t to
    rises t to et e s m = record {
      branches = λ q u v. rw et (rising (held_branch (shape_of p) w (suc j) q) (branch_for p (suc j)) q to (branch-rises (suc j)) (λ c o. own q c u v (omega arith) s));
      rows = λ g u v. rising (held_row (shape_of p) w t.rest g) (row_for p t.rest) g to (row-rises t.rest) (λ c o. later-held _ t.rest e g c u v (omega arith));
    }

    module _ (o : List ℕ) (d : Outlines p (shape_of p) o) where
      -- the best of a state's rules is that of the branch, and the best of a stage's rules that of the row
      pub branch-best : x < (shape_of p).states → (a : ℕ) → a < (shape_of p).budget + 1
          → best_in o (rules_in (shape_of p) o x) (reach_of (shape_of p) w (joint_in (shape_of p) o (suc j) x) a)
          ≡ load_rule_for (book_for p) (items_for p (suc j) (load_at (loads_for p) (suc j))) (row_for p (first_child (loads_for p) (suc j))) (suc x) a
      unfolding book_of
      branch-best lx a m =
          let e = d.child (suc j) (omega arith) l in
          ap (best_if (shape_of p) o w (suc j) x a) (lt-leb (shape_of p).states x lx)
          ∙ listed-best ok.rules d.rules (x + 1) (load_reach (item_of (item_in o (suc j))) (held_row (shape_of p) w (child_in o (suc j))) a)
          ∙ ap (λ (z : Item). load_rule_for (book_for p) z (held_row (shape_of p) w (child_in o (suc j))) (x + 1) a) (d.item (suc j) (omega arith) l)
          ∙ load-agree (book_for p) (items_for p (suc j) (load_at (loads_for p) (suc j))) (held_row (shape_of p) w (child_in o (suc j))) (row_for p (child_in o (suc j))) (x + 1) a
          (λ n c u b. let r = rule-to ok.rules n u in later-held (suc j) (child_in o (suc j)) e _ c r.0 r.1 (omega arith))
          ∙ ap (λ z. load_rule_for (book_for p) (items_for p (suc j) (load_at (loads_for p) (suc j))) (row_for p z) (x + 1) a) e
          ∙ ap (λ z. load_rule_for (book_for p) (items_for p (suc j) (load_at (loads_for p) (suc j))) (row_for p (first_child (loads_for p) (suc j))) z a) (add-one x)

      pub row-best : (shape_of p).states ≤ x → (a : ℕ) → a < (shape_of p).budget + 1
          → best_in o (rules_in (shape_of p) o x) (reach_of (shape_of p) w (joint_in (shape_of p) o (suc j) x) a)
          ≡ row_rule_for (book_for p) (branch_for p (suc j)) (row_for p (next_sibling (loads_for p) (suc j))) (suc (x - (shape_of p).states)) a
      unfolding book_of
      row-best s a m =
          let e = d.sibling (suc j) (omega arith) l in
          let g = x - (shape_of p).states + 1 in
          ap (best_if (shape_of p) o w (suc j) x a) (le-leb (shape_of p).states x s)
          ∙ listed-best ok.rows d.rows g (row_reach (held_branch (shape_of p) w (suc j)) (held_row (shape_of p) w (sibling_in o (suc j))) a)
          ∙ row-agree (book_for p) (held_branch (shape_of p) w (suc j)) (branch_for p (suc j)) (held_row (shape_of p) w (sibling_in o (suc j))) (row_for p (sibling_in o (suc j))) g a
          (λ n c u b. let r = rule-label ok.rows n u in own _ c r.0 r.1 (omega arith) s)
          (λ n c u b. let r = rule-to ok.rows n u in later-held _ (sibling_in o (suc j)) e _ c r.0 r.1 (omega arith))
          ∙ ap (λ z. row_rule_for (book_for p) (branch_for p (suc j)) (row_for p z) g a) e
          ∙ ap (λ z. row_rule_for (book_for p) (branch_for p (suc j)) (row_for p (next_sibling (loads_for p) (suc j))) z a) (add-one (x - (shape_of p).states))

      branch-reached : x < (shape_of p).states → (a : ℕ) → a < (shape_of p).budget + 1 → reached (shape_of p) o w (suc j) x a ≡ cell_of p (suc j) x a
      unfolding branch_cells
      branch-reached lx a m = ap (λ (z : Greatest). z.value) (branch-best lx a m) ∙ sym (cell-branch p (suc j) x a lx)

      row-reached : (shape_of p).states ≤ x → (a : ℕ) → a < (shape_of p).budget + 1 → reached (shape_of p) o w (suc j) x a ≡ cell_of p (suc j) x a
      row-reached s a m =
          ap (λ (z : Greatest). z.value) (row-best s a m)
          ∙ sym (row-cell (book_for p) (items_for p) (loads_for p) j (suc (x - (shape_of p).states)) a)
          ∙ sym (cell_row p (suc j) x a s)

      -- so a stretch reaches its cells, and the cells that row rules split between do not fall
      pub stretch-reached : (a : ℕ) → a < (shape_of p).budget + 1 → reached (shape_of p) o w (suc j) x a ≡ cell_of p (suc j) x a
      stretch-reached a m = go (dec_le (shape_of p).states x)
        where
          go : Dec ((shape_of p).states ≤ x) → reached (shape_of p) o w (suc j) x a ≡ cell_of p (suc j) x a
          go (yes s) = row-reached s a m
          go (no s) = branch-reached (omega arith) a m

      pub stretch-sound : (to : ℕ) → to ≤ (shape_of p).budget + 1 → Sound (shape_of p) w (joint_in (shape_of p) o (suc j) x) to
      stretch-sound to m b =
          let s = leb-true (shape_of p).states x b in
          rises (joint_in (shape_of p) o (suc j) x) to refl (ap (λ (b : Bool). pick b (sibling_in o (suc j)) (child_in o (suc j))) b ∙ d.sibling (suc j) (omega arith) l) s m
