-- A portion of a plan: its cells are those of the tables, and what is read from all of them is in range for the tables. Assumes nothing.
use Prim.Native.Nat.{ℕ, ◌+◌, ◌-◌, ◌*◌, ◌≤◌, ◌<◌}
use mathlib.Core.Path.{◌≡◌, refl, sym, ap, ◌∙◌, subst}
use mathlib.Core.Bool.{Bool, true, false}
use mathlib.Core.List.{List}
use Rattle.std.specs.Prelude.{Option, None}
use native.Mathlib.Omega.{arith}
use lib.ListN.{length, get_or}
use Rattle.lists.specs.Tests.{pick}
use Rattle.tables.specs.declared.rule.TransitionList.{TransitionList}
use Rattle.tables.specs.declared.tables.StoredTables.{StoredTables}
use Rattle.tables.specs.Limits.{max_loads, Limits}
use Rattle.tables.specs.Stored.{rules_of, book_of, tables_of}
use Rattle.meaning.specs.Best.{best_plan}
use Rattle.meaning.specs.Choice.{plan_entries}
use Rattle.meaning.specs.Cells.{cells_of, place_in, cell_in, Holding}
use Rattle.cells.specs.declared.problem.Problem.{Problem}
use Rattle.cells.specs.declared.problem.Shape.{Shape}
use Rattle.cells.specs.Problem.{plan_problem, shape_of, RulesIn, Lawful}
use Rattle.cells.specs.Outline.{Outlines}
use Rattle.cells.specs.Work.{place_of, cells_needed, Ready, cell_of, FilledTo, Filled}
use Rattle.cells.proofs.Filling.{filled-front, filled-rest}
use Rattle.cells.proofs.Stretches.{loads-long}
use Rattle.cells.proofs.Tables.{rules-length}
use Rattle.runs.specs.declared.run.Run.{Run}
use Rattle.runs.specs.declared.outcome.StoredOutcome.{StoredOutcome}
use Rattle.runs.specs.Outcome.{no_set, found, stored_outcome, stored_found, range_of, held_range, outcome_in, keeps_outcome}
use Rattle.runs.proofs.Stored.{stored-in, found_in}
use Rattle.engine.specs.Pass.{Readable, Traced}
use Rattle.engine.specs.Portion.{in_range, PartFilled, ReadFrom}
use Rattle.engine.proofs.Planning.{ready, plan-is, plan-cells}

module _ (t : StoredTables) (ok : Lawful (plan_problem t)) where
  -- ---- the cells of the problem of a plan are those of its tables
  place_is : (k x : ℕ) → place_of (shape_of (plan_problem t)) k x ≡ place_in (tables_of t) k x
  unfolding place_of place_in tables_of book_of
  place_is k x = ap (λ n. ((n - k) * (t.book.states + t.book.stages) + x) * (t.budget + 1)) (sym (loads-long (plan_problem t) ok))

  cell-is : (k x a : ℕ) → cell_of (plan_problem t) k x a ≡ cell_in (tables_of t) k x a
  unfolding cell_in tables_of book_of
  cell-is k x a = refl

  pub holding : (w : List ℕ) (i : ℕ) → FilledTo (plan_problem t) w i → Holding (tables_of t) w i
  unfolding tables_of book_of
  holding w i h = record {
    at = λ k x a low high lx la b.
        ap (λ j. get_or w (j + a) 0) (sym (place_is k x))
        ∙ h.at k x a low (omega (arith, loads-long (plan_problem t) ok)) lx la (omega (arith, place_is k x)) ∙ cell-is k x a;
  }

  pub filled-to : (w : List ℕ) (i : ℕ) → Holding (tables_of t) w i → FilledTo (plan_problem t) w i
  unfolding tables_of book_of
  filled-to w i h = record {
    at = λ k x a low high lx la b.
        ap (λ j. get_or w (j + a) 0) (place_is k x)
        ∙ h.at k x a low (omega (arith, loads-long (plan_problem t) ok)) lx la (omega (arith, place_is k x)) ∙ sym (cell-is k x a);
  }

  -- ---- what is in range for the tables
  few : t.loads.count ≤ max_loads
  few = ok.sane.loads

  held-rules : (l : TransitionList) {low high g : ℕ} → RulesIn l low high g → l.count ≡ length (rules_of l)
  held-rules l k = sym (rules-length l (omega (arith, k.few, k.full)))

  range-held : held_range t ≡ range_of (tables_of t)
  unfolding tables_of book_of
  range-held = λ i. record {
    loads = sym (loads-long (plan_problem t) ok) i;
    states = t.book.states;
    load_rules = held-rules t.book.load_rules ok.rules i;
    row_rules = held-rules t.book.row_rules ok.rows i;
  }

  in-range-same : (r : Option Run) → keeps_outcome (held_range t) (stored_found r) ≡ true → in_range t r ≡ r
  unfolding in_range
  in-range-same r k = rw k

  pub in-range-kept : (r : Option Run) → keeps_outcome (held_range t) (stored_found (in_range t r)) ≡ true
  unfolding in_range outcome_in
  in-range-kept r = go (keeps_outcome (held_range t) (stored_found r)) refl
    where
      go : (b : Bool) → keeps_outcome (held_range t) (stored_found r) ≡ b → keeps_outcome (held_range t) (stored_found (pick b r None)) ≡ true
      go true e = e
      go false e = stored-in max_loads (omega arith) (held_range t) few no_set refl

  -- ---- the plan's own outcome is in range
  module _ (h : Limits (tables_of t)) where
    abbrev outcome : StoredOutcome
    outcome = stored_outcome max_loads (found (best_plan (tables_of t)) (plan_entries (tables_of t)))

    plan-kept : keeps_outcome (held_range t) outcome ≡ true
    plan-kept =
        let m : (held_range t).loads ≤ max_loads = few in
        rw range-held (stored-in max_loads (omega arith) (range_of (tables_of t)) (omega (arith, ap (λ r. r.loads) range-held)) _ (found_in (tables_of t) h))

    pub plan-same : (r : Option Run) → stored_found r ≡ outcome → in_range t r ≡ r
    plan-same r e = in-range-same r (ap (keeps_outcome (held_range t)) e ∙ plan-kept)

module _ (t : StoredTables) (p : Problem) (ok : Lawful p) (e : p ≡ plan_problem t) where
  own : Lawful (plan_problem t)
  own = subst Lawful e ok

  -- some cells were filled
  pub part_filled : (w v : List ℕ) (from to : ℕ) → Filled p w v from to → length v ≡ length w → PartFilled (tables_of t) w v from to
  part_filled w v from to f l = record {
    below = filled-front p f l;
    above = filled-rest p f l;
    holds = λ h. holding t own v to ((subst (λ (p : Problem). Filled p w v from to) e f).holds (filled-to t own w from h));
  }

  -- the outline was written, and the work has the cells of the tables
  module _ (sh : Shape) (o w : List ℕ) (d : Outlines p sh o) (some : 0 < t.loads.count) (room : cells_of (tables_of t) ≤ length w) where
    pub cells_are : cells_needed sh ≡ cells_of (tables_of t)
    cells_are = ap cells_needed d.shape ∙ plan-cells t p ok e

    some-own : 0 < p.tables.loads.count
    some-own = rw e some

    pub ready-here : Ready sh w
    ready-here = ready p sh o d w (omega (arith, plan-cells t p ok e))

    pub readable-here : Readable sh o w
    readable-here = record { problem = p; outlined = d; ready = ready-here; some = some-own }

    -- what was read, kept in range
    pub read-from : Limits (tables_of t) → (r s : Option Run) → Traced sh o w s → r ≡ in_range t s → ReadFrom t w r
    read-from h r s read er = record {
      right = λ g. ap stored_found (er ∙ plan-same t own h s (plan-read g)) ∙ plan-read g;
      kept = rw er (in-range-kept t own s);
    }
      where
        plan-read : Holding (tables_of t) w (cells_of (tables_of t)) → stored_found s ≡ stored_outcome max_loads (found (best_plan (tables_of t)) (plan_entries (tables_of t)))
        plan-read g =
            let all : FilledTo p w (cells_needed sh) = subst (λ (p : Problem). FilledTo p w (cells_needed sh)) (sym e) (filled-to t own w _ (rw cells_are g)) in
            read p (record { outlined = d; ready = ready-here; holds = all; some = some-own }) ∙ plan-is t p ok e
