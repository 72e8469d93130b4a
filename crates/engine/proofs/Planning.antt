-- The problems of a plan and of a check are the tables' own: their best cells, their entries and the number of cells. Assumes nothing.
use Prim.Native.Nat.{ℕ, ◌+◌, ◌*◌, ◌≤◌, ◌<◌}
use mathlib.Core.Path.{◌≡◌, sym, ap, ◌∙◌, subst}
use mathlib.Core.List.{List, ◌++◌}
use native.Mathlib.Omega.{arith}
use lib.ListN.{length, drop, replicate}
use Rattle.marks.specs.declared.LoadSet.{LoadSet}
use Rattle.tables.specs.Limits.{max_loads}
use Rattle.tables.specs.declared.tables.StoredTables.{StoredTables}
use Rattle.tables.specs.Stored.{book_of, tables_of}
use Rattle.meaning.specs.Best.{best_plan, best_check}
use Rattle.meaning.specs.Choice.{in_order, plan, check, plan_entries, check_entries}
use Rattle.cells.specs.declared.problem.Problem.{Problem}
use Rattle.cells.specs.declared.problem.Shape.{Shape}
use Rattle.cells.specs.Problem.{plan_problem, check_problem, loads_for, shape_of, Sane, Lawful}
use Rattle.marks.specs.Sets.{mark_in}
use Rattle.cells.specs.Outline.{OutlineFits, Outlines}
use Rattle.cells.specs.Work.{cells_needed, Ready, FilledTo}
use Rattle.cells.specs.Stretch.{FilledBy}
use Rattle.cells.proofs.Filling.{holds-none, filled-rest}
use Rattle.cells.proofs.InRange.{outline-fits}
use Rattle.cells.proofs.Places.{cells-small}
use Rattle.cells.proofs.Stretches.{loads-long}
use Rattle.runs.specs.Outcome.{found, stored_outcome}
use Rattle.engine.specs.Pass.{best_for, entries_for, answer_to, check_cells, Complete, Readable}
use Rattle.meaning.specs.Cells.{cells_of}

-- work that has the cells of a problem, by its outline
module _ (p : Problem) (sh : Shape) (o : List ℕ) (d : Outlines p sh o) (w : List ℕ) (room : cells_needed (shape_of p) ≤ length w) where
  pub ready : Ready sh w
  ready = record { sane = subst Sane (sym d.shape) d.lawful.sane; room = omega (arith, ap cells_needed d.shape) }

  -- and was filled whole
  module _ (v : List ℕ) (n : ℕ) (en : n ≡ cells_needed sh) (f : FilledBy sh o w v 0 n) (l : length v ≡ length w) where
    pub complete : 0 < p.tables.loads.count → Complete p sh o v
    complete some = record {
      outlined = d;
      ready = record { sane = ready.sane; room = omega (arith, ready.room) };
      holds = subst (λ i. FilledTo p v i) en ((f p d).holds (holds-none p w));
      some = some;
    }

    pub rest-kept : drop (cells_needed (shape_of p)) v ≡ drop (cells_needed (shape_of p)) w
    rest-kept = subst (λ i. drop i v ≡ drop i w) (en ∙ ap cells_needed d.shape) (filled-rest p (f p d) l)

-- work that was filled is read, and what is read from is in range
module _ (sh : Shape) (o w : List ℕ) where
  pub filled-readable : (p : Problem) → Complete p sh o w → Readable sh o w
  filled-readable p k = record { problem = p; outlined = k.outlined; ready = k.ready; some = k.some }

  module _ (k : Readable sh o w) where
    pub readable-fits : OutlineFits sh o
    readable-fits = outline-fits k.problem _ _ k.outlined

    pub readable-some : 0 < sh.loads
    readable-some = omega (arith, k.some, ap (λ (y : Shape). y.loads) k.outlined.shape)

-- the first cells become 0, and the others are as they came
pub all-cleared : (w v u : List ℕ) (n m : ℕ) → u ≡ replicate n 0 ++ drop n v → n ≡ m → drop m v ≡ drop m w → u ≡ replicate m 0 ++ drop m w
all-cleared w v u n m e en ev = e ∙ ap (λ i. replicate i 0 ++ drop i v) en ∙ ap (λ z. replicate m 0 ++ z) ev

module _ (t : StoredTables) (p : Problem) (ok : Lawful p) where
  pub plan-is : p ≡ plan_problem t → answer_to p ≡ stored_outcome max_loads (found (best_plan (tables_of t)) (plan_entries (tables_of t)))
  unfolding best_plan plan plan_entries tables_of
  plan-is e =
      ap (λ n. stored_outcome max_loads (found (best_for p) (in_order (entries_for p) 1 n))) (sym (loads-long p ok))
      ∙ ap (λ (p : Problem). stored_outcome max_loads (found (best_for p) (in_order (entries_for p) 1 (length (loads_for p))))) e

  pub plan-cells : p ≡ plan_problem t → cells_needed (shape_of p) ≡ cells_of (tables_of t)
  unfolding cells_of tables_of book_of
  plan-cells e =
      ap (λ n. n * (p.tables.book.states + p.tables.book.stages) * (p.tables.budget + 1)) (sym (loads-long p ok))
      ∙ ap (λ (p : Problem). length (loads_for p) * (p.tables.book.states + p.tables.book.stages) * (p.tables.budget + 1)) e

  module _ (σ : LoadSet) where
    pub check-is : p ≡ check_problem t σ → answer_to p ≡ stored_outcome max_loads (found (best_check (tables_of t) (mark_in σ)) (check_entries (tables_of t) (mark_in σ)))
    unfolding best_check check check_entries tables_of
    check-is e =
        ap (λ n. stored_outcome max_loads (found (best_for p) (in_order (entries_for p) 1 n))) (sym (loads-long p ok))
        ∙ ap (λ (p : Problem). stored_outcome max_loads (found (best_for p) (in_order (entries_for p) 1 (length (loads_for p))))) e

    -- its cells: one allowance
    pub check-cells : p ≡ check_problem t σ → cells_needed (shape_of p) ≤ check_cells
    check-cells e = cells-small (shape_of p) ok.sane 1 (rw e (omega arith))
