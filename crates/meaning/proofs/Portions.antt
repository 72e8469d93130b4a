-- Each cell of a plan is the best of its branch or row, of tables that keep the limits; and the order of the cells. Assumes nothing.
use Prim.Native.Nat.{ℕ, zero, suc, ◌+◌, ◌-◌, ◌*◌, ◌≤◌, ◌<◌}
use mathlib.Core.Path.{◌≡◌, sym, ap, ap₂, ◌∙◌}
use mathlib.Core.List.{List, [], ◌∷◌}
use mathlib.Core.Logic.{◌⊎◌, inl, inr}
use native.Mathlib.Nat.{eq-zero-or-pos, zero-mul, suc-mul}
use native.Mathlib.Omega.{arith}
use borrow.Author.Tests.{lt-ltb, le-ltb}
use lib.ListN.{length, get_or, drop}
use Rattle.tables.specs.declared.load.Load.{Load}
use Rattle.tables.specs.Tables.{Tables, no_load}
use Rattle.tables.specs.Limits.{Limits}
use Rattle.tables.specs.Lawful.{Lawful}
use Rattle.tables.proofs.Lawful.{lawful}
use Rattle.meaning.specs.Forest.{Item, node, planned, row, tree, row_after, row_at, IsTree, total, sum}
use Rattle.meaning.specs.Runs.{Assigned, Run}
use Rattle.meaning.specs.Cell.{cell, power_limit, ◌⊕◌, score, drawn, gained, scored}
use Rattle.meaning.specs.Best.{best, branch_cell}
use Rattle.meaning.specs.Choice.{choose_branch, choose, marks_of, assigned_by}
use Rattle.meaning.specs.Cells.{cells_of, load_at, row_cells, branch_cells, place_in, cell_in, Holding}
use Rattle.meaning.specs.Portions.{Part, branch_of, row_of, Within, BestSet, BestOf, InOrder, CellBest, BestHeld, CellsBest}
use Rattle.meaning.proofs.Cell.{cell-pos, cell-le, cell-cooler, ⊕-empty}
use Rattle.meaning.proofs.Tree.{row-after}
use Rattle.meaning.proofs.Ordered.{loads-ordered}
use Rattle.meaning.proofs.Optimal.{complete, sound, branch-complete, branch-sound}
use Rattle.meaning.proofs.Entries.{once, sum-once, row-follows, branch_follows}
use Rattle.meaning.proofs.Plan.{scored-is}
use Rattle.meaning.proofs.Rows.{row-none, rows-le}
use Rattle.meaning.proofs.Bound.{ordered-after}

-- ---- from the search of a part to its best
-- a set with a run within the allowance, whose cell is v
record Found (p : Part) (c v : ℕ) : Type 0 where
  set : ℕ → ℕ
  within : Within p c set
  scores : scored set p.loads ≡ v

-- no run within the allowance scores more than v, and some run scores v, if it is not 0
module _ (p : Part) (c v : ℕ) (small : c < power_limit)
    (bound : (σ : ℕ → ℕ) (ρ : ℕ → Assigned) → p.Runs σ ρ → drawn σ p.loads ≤ c → scored σ p.loads ≤ v)
    (found : 0 < v → Found p c v) where
  abbrev power : (ℕ → ℕ) → ℕ
  power σ = drawn σ p.loads

  abbrev worth : (ℕ → ℕ) → ℕ
  worth σ = gained σ p.loads

  less : (σ : ℕ → ℕ) → Within p c σ → power σ < power_limit
  less σ w = omega (arith, w.fits, small)

  most : (σ : ℕ → ℕ) → Within p c σ → cell (power σ) (worth σ) ≤ v
  most σ w = rw (← (scored-is σ p.loads (less σ w))) (bound σ w.allowed.0 w.allowed.1 w.fits)

  none_within : v ≡ 0 → (σ : ℕ → ℕ) → Within p c σ → ⊥
  none_within e σ w = absurd (omega (arith, most σ w, cell-pos (power σ) (worth σ) (less σ w)))

  -- a set whose cell is v is a best one
  best-set : (σ : ℕ → ℕ) → Within p c σ → cell (power σ) (worth σ) ≡ v → BestSet p c σ
  best-set σ w e =
      record {
        within = w;
        greatest = λ τ x. cell-le (power τ) (worth τ) (power σ) (worth σ) (less τ x) (less σ w) (omega (arith, most τ x, e));
        coolest = λ τ x d. cell-cooler (power τ) (worth τ) (power σ) (worth σ) (less τ x) d (omega (arith, most τ x, e));
      }

  -- two best sets have the same cell
  same-cell : (σ τ : ℕ → ℕ) → BestSet p c σ → BestSet p c τ → cell (power σ) (worth σ) ≡ cell (power τ) (worth τ)
  same-cell σ τ s x =
      let w : worth σ ≡ worth τ = omega (arith, s.greatest τ x.within, x.greatest σ s.within) in
      ap₂ cell (omega (arith, s.coolest τ x.within (sym w), x.coolest σ s.within w)) w

  found-cell : (h : 0 < v) → cell (power (found h).set) (worth (found h).set) ≡ v
  found-cell h = sym (scored-is (found h).set p.loads (less (found h).set (found h).within)) ∙ (found h).scores

  found-best : (h : 0 < v) → BestSet p c (found h).set
  found-best h = best-set (found h).set (found h).within (found-cell h)

  best_of : BestOf p c v
  best_of =
      record {
        none = (none_within, λ h. absent h (eq-zero-or-pos v));
        some = λ h. ((found h).set, found-best h);
        value = λ σ s. value σ s (eq-zero-or-pos v);
      }
    where
      absent : ((σ : ℕ → ℕ) → Within p c σ → ⊥) → (v ≡ 0) ⊎ (0 < v) → v ≡ 0
      absent h (inl e) = e
      absent h (inr l) = absurd (h (found l).set (found l).within)

      value : (σ : ℕ → ℕ) → BestSet p c σ → (v ≡ 0) ⊎ (0 < v) → v ≡ cell (power σ) (worth σ)
      value σ s (inl e) = absurd (none_within e σ s.within)
      value σ s (inr l) = sym (found-cell l) ∙ same-cell (found l).set σ (found-best l) s

-- ---- the loads of a row
-- each is in it once
row-once : (item : ℕ → Load → Item) (ls : List Load) → IsTree ls → (j : ℕ) → (get_or ls j no_load).parent ≤ j
    → (n : ℕ) → total (λ k i. once n k) (row_at item ls (suc j)) ≤ 1
unfolding total sum
row-once item ls o j low n =
    omega (
      arith,
      rows-le item (λ k i. once n k) (drop (suc j) ls) j (get_or ls j no_load).parent (ordered-after ls o j) low,
      sum-once n (no_load ∷ drop (suc j) ls) (suc j),
    )

-- load 1 is the only load of its row
root-alone : (ls : List Load) → IsTree ls → (get_or ls 0 no_load).parent ≤ 0 → 0 < length ls → row_at planned ls 1 ≡ tree planned ls
unfolding tree
root-alone [] o low h = absurd (omega arith)
root-alone (l ∷ ls) o low h =
    let e : l.parent ≡ 0 = omega arith in
    ap (λ p. node 1 (planned 1 l) (row planned ls 2 1) (row planned ls 2 p)) e ∙ ap (node 1 (planned 1 l) (row planned ls 2 1)) (row-none planned ls 2 o)

-- ---- the cells
module _ (t : Tables) (w : Lawful t) where
  o : IsTree t.loads
  o = loads-ordered t.loads w.load

  within-limit : (c : ℕ) → c ≤ t.budget → c < power_limit
  within-limit c h = omega (arith, w.budget)

  low : (j : ℕ) → j < length t.loads → (get_or t.loads j no_load).parent ≤ j
  low j few = omega (arith, (w.load j few).parent)

  row-best : (j g c : ℕ) → j < length t.loads → c ≤ t.budget → BestOf (row_of t (suc j) g) c (row_cells t.book planned t.loads (suc j) g c)
  unfolding row_cells
  row-best j g c few h =
      let b = t.book in
      let f = row_at planned t.loads (suc j) in
      let es = choose b f g c in
      best_of (row_of t (suc j) g) c (best b f g c) (within-limit c h) (λ σ ρ r d. complete b σ ρ f g c r d)
      (λ l.
      let s = sound b (marks_of es) (assigned_by es) f g c l (row-follows b f (row-once planned t.loads o j (low j few)) g c) in
      record { set = marks_of es; within = record { allowed = (assigned_by es, s.0); fits = s.1 }; scores = s.2 })

  -- the row below a load is that from its first child onward
  branch-cells : (j q c : ℕ) → branch_cells t.book planned t.loads (suc j) q c
      ≡ branch_cell t.book (planned (suc j) (load_at t.loads (suc j))) (best t.book (row_after planned t.loads (suc j) (suc j))) q c
  unfolding branch_cells row_cells
  branch-cells j q c = rw (row-after planned t.loads (suc j) (suc j))

  branch-once : (j : ℕ) → j < length t.loads → (n : ℕ) → once n (suc j) + total (λ k i. once n k) (row_after planned t.loads (suc j) (suc j)) ≤ 1
  unfolding total
  branch-once j few n = omega (arith, row-once planned t.loads o j (low j few) n)

  branch-best : (j q c : ℕ) → j < length t.loads → c ≤ t.budget
      → BestOf (branch_of t (suc j) q) c (branch_cells t.book planned t.loads (suc j) q c)
  unfolding total scored
  branch-best j q c few h =
      let b = t.book in
      let k = suc j in
      let i = planned k (load_at t.loads k) in
      let below = row_after planned t.loads k k in
      let es = choose_branch b k i (best b below) (choose b below) 0 q c in
      rw (branch-cells j q c)
      (best_of (branch_of t k q) c (branch_cell b i (best b below) q c) (within-limit c h)
      (λ σ ρ r d.
      rw (⊕-empty (score i (σ k) ⊕ scored σ below))
      (branch-complete b i (best b below) (Run b σ ρ below) (drawn σ below) (scored σ below) (complete b σ ρ below) (σ k) (ρ k).load_rule q c r.1 (omega arith)))
      (λ l.
      let σ = marks_of es in
      let ρ = assigned_by es in
      let s = branch-sound b σ ρ k i (best b below) (choose b below) (Run b σ ρ below) (drawn σ below) (scored σ below) (sound b σ ρ below)
      0 q c l (branch_follows b k i below (branch-once j few) 0 q c) in
      record { set = σ; within = record { allowed = (ρ, (s.state, s.run)); fits = omega (arith, s.fits) }; scores = ⊕-empty _ ∙ s.scores }))

  branches : (k q c : ℕ) → 0 < k → k ≤ length t.loads → c ≤ t.budget → BestOf (branch_of t k q) c (branch_cells t.book planned t.loads k q c)
  branches zero q c pos few h = absurd (omega arith)
  branches (suc j) q c pos few h = branch-best j q c few h

  rows : (k g c : ℕ) → 0 < k → k ≤ length t.loads → c ≤ t.budget → BestOf (row_of t k g) c (row_cells t.book planned t.loads k g c)
  rows zero g c pos few h = absurd (omega arith)
  rows (suc j) g c pos few h = row-best j g c few h

  cells : (k x c : ℕ) → 0 < k → k ≤ length t.loads → c ≤ t.budget → CellBest t k x c (cell_in t k x c)
  unfolding cell_in
  cells k x c pos few h =
      record {
        branch = λ l. rw (lt-ltb x t.book.states l) (branches k (suc x) c pos few h);
        row = λ l. rw (le-ltb x t.book.states l) (rows k (suc (x - t.book.states)) c pos few h);
      }

  held : (w : List ℕ) (n : ℕ) → Holding t w n → BestHeld t w n
  held w n holds = record { at = λ k x a pos few l h m. rw (holds.at k x a pos few l h m) (cells k x a pos few h) }

pub cells-best : (t : Tables) → Limits t → CellsBest t
cells-best t h =
    let w = lawful t h in
    record {
      branches = branches t w;
      rows = rows t w;
      root = λ few. root-alone t.loads (o t w) (low t w 0 few) few;
      cells = cells t w;
      held = held t w;
    }

-- ---- the order of the cells
more-times : (m n : ℕ) → suc m * n ≡ m * n + n
more-times m n = omega (arith, suc-mul m n)

pub in_order : (t : Tables) → InOrder t
unfolding place_in cells_of
in_order t =
    let n = length t.loads in
    let w = t.book.states + t.book.stages in
    let b = t.budget + 1 in
    record {
      first = let e : n - n ≡ 0 = omega arith in ap (λ (m : ℕ). (m * w + 0) * b) e ∙ ap (λ (m : ℕ). (m + 0) * b) (zero-mul w) ∙ zero-mul b;
      next = λ k x.
          let e : (n - k) * w + suc x ≡ suc ((n - k) * w + x) = omega arith in
          ap (λ (m : ℕ). m * b) e ∙ more-times ((n - k) * w + x) b;
      before = λ k l.
          let e : n - k ≡ suc (n - suc k) = omega (arith, l) in
          let f : (n - k) * w + 0 ≡ (n - k) * w = omega arith in
          ap (λ (m : ℕ). m * b) (f ∙ ap (λ (m : ℕ). m * w) e ∙ more-times (n - suc k) w);
      last = λ l.
          let e : suc (n - 1) ≡ n = omega (arith, l) in
          ap (λ (m : ℕ). m * b) (sym (more-times (n - 1) w) ∙ ap (λ (m : ℕ). m * w) e);
    }
