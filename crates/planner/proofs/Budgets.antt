-- The ways out of `need`: a refusal, or the least budget. Assumes nothing.
use Rattle.std.specs.Prelude.{None, Result, Ok, Err}
use Prim.Native.Nat.{ℕ, ◌≤◌, ◌<◌}
use mathlib.Core.Path.{◌≡◌, refl, sym, ap, ◌∙◌}
use mathlib.Core.Bool.{Bool, true, false}
use mathlib.Core.List.{List}
use borrow.Author.Tests.{eq-eqb, ne_eqb, lt-ltb}
use lib.ListN.{length}
use Rattle.lists.specs.Tests.{pick}
use Rattle.lines.specs.declared.Command.TheVariants as line
use Rattle.lines.specs.declared.answer.Answer.TheVariants.{Needed}
use Rattle.lines.specs.Answers.{number_of, numbered}
use Rattle.tables.specs.declared.refusal.Refusal.{Refusal}
use Rattle.tables.specs.declared.refusal.Refusal.TheVariants.{NoneFits, TooPoor}
use Rattle.tables.specs.Refusals as no
use Rattle.tables.specs.Tables.{Tables}
use Rattle.tables.specs.Limits.{need_in}
use Rattle.meaning.specs.Cells.{cells_of}
use Rattle.meaning.specs.Need.{none_fits, poorer, least_budget}
use Rattle.engine.specs.Need.{need_of}
use Rattle.calls.specs.State.{State}
use Rattle.calls.specs.Rows.{Row, row, causes_of, cells_for}
use Rattle.calls.specs.Causes.{lowest}
use Rattle.calls.specs.Printing.{zeroed, searched}
use Rattle.calls.proofs.Work.{row-zeroed}
use Rattle.calls.proofs.Need.{number_by, searched-by, need-lowest}
use Rattle.planner.specs.declared.Planner.{Planner}
use Rattle.planner.specs.Planner.{state_in, Lawful}
use Rattle.planner.specs.Decided.{need_answer, unshown, Decision, decision, decided_by, Decides}
use Rattle.planner.proofs.Searching.{is_held}

-- ---- its numbers before it looks
module _ (s : State) (v cells : ℕ) where
  pub need-no-loads : length s.tables.loads ≡ 0 → lowest (causes_of cells (row s (line.Need v))) ≡ no.no_loads
  unfolding row lowest
  need-no-loads e = rw (eq-eqb (length s.tables.loads) 0 e)

  module _ (some : length s.tables.loads ≡ 0 → ⊥) where
    pub need-out-of-range : need_in s.tables.places v ≡ false → lowest (causes_of cells (row s (line.Need v))) ≡ no.out_of_range
    unfolding row lowest
    need-out-of-range e = rw (ne_eqb (length s.tables.loads) 0 some, e)

    pub need-too-few : need_in s.tables.places v ≡ true → cells < cells_of s.tables → lowest (causes_of cells (row s (line.Need v))) ≡ no.too_few_cells
    unfolding row lowest
    need-too-few e l = rw (ne_eqb (length s.tables.loads) 0 some, e, lt-ltb cells (cells_of s.tables) l)

-- ---- what it found, by whether no set fits, and whether the plan is worth less
module _ (p : Planner) (h : Lawful p) (v : ℕ) where
  abbrev t : Tables
  t = (state_in p).tables

  abbrev need_row : Row
  need_row = row (state_in p) (line.Need v)

  abbrev said : (none poor : Bool) → Result ℕ Refusal
  said a b = pick a (Err NoneFits) (pick b (Err TooPoor) (Ok (least_budget t v)))

  answers : (a b : Bool) → decision (unshown (need_answer (said a b)) p) ≡ decided_by (state_in p) (number_by a b) need_row
  unfolding decided_by row
  answers true b = λ i. record { answer = Err no.none_fits; run = None; planner = is_held p h i }
  answers false true = λ i. record { answer = Err no.too_poor; run = None; planner = is_held p h i }
  answers false false = λ i. record { answer = Ok (Needed (least_budget t v)); run = None; planner = is_held p h i }

  number : (a b : Bool) → number_of (numbered (need_answer (said a b))) ≡ number_by a b
  number true b = refl
  number false true = refl
  number false false = refl

  -- it is answered so, and its cells are 0
  pub needs-done : (w u : List ℕ) → (length t.loads ≡ 0 → ⊥) → need_in t.places v ≡ true → cells_of t ≤ length w → u ≡ zeroed (cells_for need_row) w
      → (n : Result ℕ Refusal) → n ≡ need_of t v → Decides (state_in p) need_row w u (unshown (need_answer n) p)
  unfolding need_of
  needs-done w u some value room cleared n en =
      let a = none_fits t in
      let b = poorer t v in
      let e : decision (unshown (need_answer n) p) ≡ decision (unshown (need_answer (said a b)) p) = ap (λ (x : Result ℕ Refusal). decision (unshown (need_answer x) p)) en in
      let given = ap (λ (x : Decision). number_of x.answer) e ∙ number a b in
      record {
        answer = e ∙ answers a b ∙ ap (λ m. decided_by (state_in p) m need_row) (sym (need-lowest (state_in p) v (length w) some value room));
        work = cleared ∙ sym (row-zeroed (number_of (numbered (need_answer n))) need_row w (ap searched given ∙ searched-by a b));
      }
