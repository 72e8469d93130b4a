-- The pass: what is chosen for a load that was reached is the run's, and the rows that it leads to are part of the run. Assumes nothing.
use Prim.Native.Nat.{ℕ, zero, suc, ◌-◌, ◌≤◌, ◌<◌}
use mathlib.Core.Path.{◌≡◌, refl, sym, ap, ap₂, ◌∙◌}
use mathlib.Core.Bool.{Bool, true, false}
use mathlib.Core.List.{List, [], ◌∷◌, ◌++◌}
use Rattle.std.specs.Prelude.{Some}
use mathlib.Core.Logic.{◌⊎◌, inl, inr}
use native.Mathlib.Nat.{eq-or-lt_of_le, le_refl, sub-le, le_trans}
use native.Mathlib.Omega.{arith}
use borrow.Author.Tests.{eqb-true, eqb-false, le-leb}
use lib.Dec.{eqb}
use lib.ListN.{length, set, length-set}
use lib.Seq.{get_or-set_same, get_or-set_other}
use Rattle.tables.specs.Limits.{max_loads}
use Rattle.tables.specs.Stored.{book_of}
use Rattle.meaning.specs.Runs.{Assigned}
use Rattle.meaning.specs.Cells.{first_child, next_sibling}
use Rattle.tables.specs.declared.entry.Entry.{Entry}
use Rattle.meaning.specs.Choice.{find, in_order, assigned}
use Rattle.meaning.proofs.Entries.{tree-listed}
use Rattle.cells.specs.declared.problem.Problem.{Problem}
use Rattle.cells.specs.Problem.{book_for, loads_for, items_for, Lawful}
use Rattle.cells.proofs.Tables.{rule-to, rule-label}
use Rattle.cells.proofs.Stretches.{loads-long}
use Rattle.runs.specs.declared.run.Run.{Run}
use Rattle.engine.specs.declared.pass.Entrance.{Entrance}
use Rattle.engine.specs.declared.choice.Choice.{Choice}
use Rattle.engine.specs.declared.pass.Pass.{Pass}
use Rattle.runs.specs.Runs.{run_of, with_entry}
use Rattle.engine.specs.Parts.{start_best, load_rule}
use Rattle.engine.specs.Pass.{entries_for, load_choice, row_choice, within, no_entrance, entrance_at, row_entered, entrance_of, entered, passed_load, BranchEntered, RowEntered, Opens, Known, Passed}
use Rattle.runs.proofs.Runs.{order-length, order-next, run-snoc}
use Rattle.engine.proofs.Parts.{load-reached, row-found, share-reached, root-part, below-part, shown-mark, shown-rules, branch-part, later-part}
use Rattle.engine.proofs.Openers.{opener}

-- ---- numbers in range are read as they are
pub within_same : (x high : ℕ) → 0 < x → x ≤ high → within x high ≡ Some (x - 1)
within_same x high l h = rw (le-leb 1 x l, le-leb x high h)

-- ---- rows that are entered
row-some : (rs : List Entrance) (k : ℕ) (e : Entrance) → (k ≡ 0 → ⊥) → set rs (k - 1) e ≡ row_entered rs k e
unfolding row_entered
row-some rs zero e h = absurd (h refl)
row-some rs (suc j) e h = let q : suc j - 1 ≡ j = omega arith in ap (λ i. set rs i e) q

pub enter-none : (s : Pass) (t : Choice) → t.rest ≡ 0 → s ≡ entered s t
unfolding row_entered
enter-none s t e = rw e

pub enter-some : (s : Pass) (t : Choice) → (t.rest ≡ 0 → ⊥) → record { run = s.run; rows = set s.rows (t.rest - 1) (entrance_of t) } ≡ entered s t
enter-some s t h = ap (λ (rs : List Entrance). record { run = s.run; rows = rs }) (row-some s.rows t.rest (entrance_of t) h)

enter-full : (rs : List Entrance) (k : ℕ) (e : Entrance) → length rs ≡ max_loads → length (row_entered rs k e) ≡ max_loads
unfolding row_entered
enter-full rs zero e f = f
enter-full rs (suc j) e f = length-set rs j e ∙ f

-- the row that is entered is known, and every other that was known still is
enter-known : (p : Problem) (rs : List Entrance) → length rs ≡ max_loads → (k : ℕ) (e : Entrance) → RowEntered p k e.stage e.left
    → (i : ℕ) → i < max_loads → (k ≡ suc i) ⊎ Known p rs i → Known p (row_entered rs k e) i
unfolding row_entered
enter-known p rs f zero e h i l (inl q) = absurd (omega arith)
enter-known p rs f zero e h i l (inr o) = o
enter-known p rs f (suc j) e h i l o = go (eqb i j) refl o
  where
    same : i ≡ j → Known p (set rs j e) i
    same q = rw (q, get_or-set_same rs j e no_entrance (omega (arith, f))) h

    other : (i ≡ j → ⊥) → Known p rs i → Known p (set rs j e) i
    other q o = rw (get_or-set_other rs j i e no_entrance q) o

    go : (t : Bool) → eqb i j ≡ t → (suc j ≡ suc i) ⊎ Known p rs i → Known p (set rs j e) i
    go true q o = same (eqb-true i j q)
    go false q (inl z) = same (omega arith)
    go false q (inr o) = other (eqb-false i j q) o

next_of : (p : Problem) (k g c : ℕ) → (row_choice p k g c).rest ≡ next_sibling (loads_for p) k
unfolding row_choice
next_of p k g c = refl

module _ (p : Problem) (ok : Lawful p) where
  -- ---- from a branch to the row below it, and from a row to its branch and the later row
  module _ (k r q c : ℕ) (h : BranchEntered p k r q c) where
    pub below-entered : (let t = load_choice p k q c in RowEntered p t.rest t.stage t.left)
    unfolding load_choice book_of
    below-entered =
        let i = (load-reached (book_for p) (items_for p) (loads_for p) k q c h.part.possible).0 in
        let t = rule-to ok.rules _ i in
        record {
          part = below-part (book_for p) (items_for p) (loads_for p) _ _ k r q c h.part;
          low = t.0;
          high = t.1;
          fits = le_trans (sub-le c _) h.fits;
        }

  module _ (n g c : ℕ) (h : RowEntered p (suc n) g c) where
    pub branch-entered : (let t = row_choice p (suc n) g c in BranchEntered p (suc n) t.rule t.label t.share)
    unfolding row_choice
    branch-entered = record {
      part = branch-part (book_for p) (items_for p) (loads_for p) _ _ n g c h.part;
      fits = le_trans (share-reached (book_for p) (items_for p) (loads_for p) (suc n) g c (omega arith) h.part.possible).0 h.fits;
    }

    -- the branch's state is one of the book
    pub row-state : (let t = row_choice p (suc n) g c in (0 < t.label) × (t.label ≤ p.tables.book.states))
    unfolding row_choice book_of
    row-state = rule-label ok.rows _ (row-found (book_for p) (items_for p) (loads_for p) (suc n) g c (omega arith) h.part.possible)

    pub later-entered : (let t = row_choice p (suc n) g c in RowEntered p t.rest t.stage t.left)
    unfolding row_choice book_of
    later-entered =
        let i = row-found (book_for p) (items_for p) (loads_for p) (suc n) g c (omega arith) h.part.possible in
        let t = rule-to ok.rows _ i in
        record {
          part = later-part (book_for p) (items_for p) (loads_for p) _ _ n g c h.part;
          low = t.0;
          high = t.1;
          fits = le_trans (sub-le c _) h.fits;
        }

  -- ---- the entry of a load that is passed
  module _ (n r q c : ℕ) (few : n < p.tables.loads.count) (h : BranchEntered p (suc n) r q c) where
    abbrev shown_for : Entry
    shown_for = record {
      number = suc n;
      mark = (load_choice p (suc n) q c).label;
      state = q;
      rule = (load_choice p (suc n) q c).rule;
      row = r;
    }

    entry_found : shown_for ≡ find (entries_for p) (suc n)
    unfolding load_choice
    entry_found =
        let number : (find (entries_for p) (suc n)).number ≡ suc n =
        (tree-listed (book_for p) (items_for p) (loads_for p) ok.loads.ordered p.tables.budget).number (suc n) (omega arith) (omega (arith, loads-long p ok)) in
        let mark = shown-mark (book_for p) (items_for p) (loads_for p) _ _ (suc n) r q c h.part in
        let rules = shown-rules (book_for p) (items_for p) (loads_for p) _ _ (suc n) r q c h.part in
        sym (ap₂ (λ k m. entry k m (assigned (find (entries_for p) (suc n)))) number mark ∙ ap (entry (suc n) (load_rule (book_for p) (items_for p) (loads_for p) (suc n) q c).label) rules)
      where
        entry : ℕ → ℕ → Assigned → Entry
        entry k m a = record { number = k; mark = m; state = a.state; rule = a.load_rule; row = a.row_rule }

    run_more : (u : Run) → u ≡ run_of max_loads (in_order (entries_for p) 1 n) → with_entry u shown_for ≡ run_of max_loads (in_order (entries_for p) 1 (suc n))
    run_more u e =
        let l = order-length (entries_for p) 1 n in
        ap (λ (u : Run). with_entry u shown_for) e
        ∙ run-snoc max_loads (in_order (entries_for p) 1 n) shown_for (omega arith) (omega (arith, ok.sane.loads))
        ∙ ap (λ (e : Entry). run_of max_loads (in_order (entries_for p) 1 n ++ (e ∷ []))) entry_found
        ∙ ap (run_of max_loads) (sym (order-next (entries_for p) n))

    -- load n + 1 is passed, after the rows that the earlier loads and its own row lead to
    pass-load : (s : Pass) → s.run ≡ run_of max_loads (in_order (entries_for p) 1 n) → length s.rows ≡ max_loads
        → ((i j : ℕ) → suc n ≤ i → i < p.tables.loads.count → 0 < j → j ≤ n → Opens (loads_for p) j (suc i) → Known p s.rows i)
        → ((i : ℕ) → i < p.tables.loads.count → 1 < suc n → next_sibling (loads_for p) (suc n) ≡ suc i → Known p s.rows i)
        → Passed p (suc n) (passed_load s (suc n) r q (load_choice p (suc n) q c))
    unfolding passed_load load_choice
    pass-load s e f led beside =
        let below = below-entered (suc n) r q c h in
        record {
          run = run_more s.run e;
          full = enter-full s.rows _ _ f;
          led = λ i j a b o d w. enter-known p s.rows f _ _ below i (omega (arith, ok.sane.loads)) (known i j a b o (eq-or-lt_of_le d) w);
        }
      where
        known : (i j : ℕ) → suc n ≤ i → i < p.tables.loads.count → 0 < j → (j ≡ suc n) ⊎ (j < suc n) → Opens (loads_for p) j (suc i)
            → ((load_choice p (suc n) q c).rest ≡ suc i) ⊎ Known p s.rows i
        known i j a b o (inl x) (inl y) = inl (ap (first_child (loads_for p)) (sym x) ∙ y)
        known i j a b o (inl x) (inr y) = inr (beside i b (omega arith) (ap (next_sibling (loads_for p)) (sym x) ∙ y.1))
        known i j a b o (inr x) w = inr (led i j a b o (omega arith) w)

  -- the root, in its start state with the whole budget
  pub pass-root : 0 < p.tables.loads.count → 0 < (start_best (book_for p) (items_for p) (loads_for p) p.tables.budget).value
      → (s : Pass) → s.run ≡ run_of max_loads [] → length s.rows ≡ max_loads
      → (let q = suc (start_best (book_for p) (items_for p) (loads_for p) p.tables.budget).index in
      Passed p 1 (passed_load s 1 0 q (load_choice p 1 q p.tables.budget)))
  unfolding in_order
  pass-root some pos s e f =
      let root : BranchEntered p 1 0 (suc (start_best (book_for p) (items_for p) (loads_for p) p.tables.budget).index) p.tables.budget =
      record { part = root-part (book_for p) (items_for p) (loads_for p) p.tables.budget (omega (arith, loads-long p ok)) pos ok.loads.ordered; fits = le_refl _ } in
      pass-load 0 0 _ p.tables.budget some root s e f (λ i j a b o d w. absurd (omega arith)) (λ i b o w. absurd (omega arith))

  -- a load after the root, where its row is entered
  module _ (n : ℕ) (s : Pass) (h : Passed p n s) (low : 0 < n) (few : n < p.tables.loads.count) where
    pub row-known : Known p s.rows n
    row-known =
        let o = opener (loads_for p) ok.loads.ordered (suc n) (omega arith) (omega (arith, loads-long p ok)) in
        h.led n o.0 (le_refl n) few o.1 (omega (arith, o.2)) o.3

    pub pass_step : (let t = row_choice p (suc n) (entrance_at s.rows n).stage (entrance_at s.rows n).left in
        Passed p (suc n) (passed_load (entered s t) (suc n) t.rule t.label (load_choice p (suc n) t.label t.share)))
    pass_step =
        let t = row_choice p (suc n) (entrance_at s.rows n).stage (entrance_at s.rows n).left in
        let later = later-entered n _ _ row-known in
        pass-load n t.rule t.label t.share few (branch-entered n _ _ row-known) (entered s t) h.run
        (enter-full s.rows t.rest (entrance_of t) h.full)
        (λ i j a b o d w. enter-known p s.rows h.full t.rest (entrance_of t) later i (omega (arith, ok.sane.loads)) (inr (h.led i j (omega arith) b o d w)))
        (λ i b o w. enter-known p s.rows h.full t.rest (entrance_of t) later i (omega (arith, ok.sane.loads)) (inl (next-is ∙ w)))
      where
        next-is : (row_choice p (suc n) (entrance_at s.rows n).stage (entrance_at s.rows n).left).rest ≡ next_sibling (loads_for p) (suc n)
        next-is = next_of p (suc n) _ _
