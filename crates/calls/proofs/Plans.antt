-- Demand 2: a plan shows the lowest run of a best set, with that set's own figures, and 9 is said exactly where none fits. Assumes nothing.
use Prim.Native.Nat.{ℕ, zero, suc}
use mathlib.Core.Path.{◌≡◌, refl, ap, ◌∙◌}
use mathlib.Core.Bool.{Bool, true, false}
use mathlib.Core.Logic.{inl, inr, ◌↔◌}
use native.Mathlib.Omega.{arith}
use borrow.Author.Tests.{eqb-true, eqb-false, eq-eqb, ne_eqb, le-ltb}
use lib.Dec.{eqb}
use lib.ListN.{length}
use Rattle.lists.specs.Tests.{pick}
use Rattle.lines.specs.declared.Command.TheVariants.{Plan}
use Rattle.lines.specs.Answers.{refused}
use Rattle.lines.proofs.Sizes.{numbers-short}
use Rattle.tables.specs.Refusals as no
use Rattle.tables.specs.Tables.{Tables}
use Rattle.tables.specs.Limits.{Limits}
use Rattle.meaning.specs.Sets.{NoneFits}
use Rattle.meaning.specs.Best.{best_plan}
use Rattle.meaning.specs.Choice.{plan_entries, shown_set}
use Rattle.meaning.specs.Cells.{cells_of}
use Rattle.meaning.specs.Need.{none_fits}
use Rattle.meaning.proofs.Claims.{claims}
use Rattle.runs.specs.Outcome.{Outcome, nothing, no_set, planned}
use Rattle.runs.specs.Outcome.{found as outcome}
use Rattle.calls.specs.State.{State, Within}
use Rattle.calls.specs.Rows.{Row, plan_text, row}
use Rattle.calls.specs.Causes.{lowest, refusal}
use Rattle.calls.specs.Printing.{text, work_after, zeroed}
use Rattle.calls.specs.Calls.{Call, Reply, row_for, number_for, cleared, answer}
use Rattle.calls.specs.Demand2.{printed_set, PlanCall, PlanAnswered, PlanRight}
use Rattle.calls.proofs.Fits.{planned-fits}
use Rattle.calls.proofs.Printed.{plan-set}
use Rattle.calls.proofs.Answers.{positive, refused_if, last-cause, roomy, row_is, answer_at}

-- the test for 9
pub none-fits : (t : Tables) → Limits t → (none_fits t ≡ true) ↔ NoneFits t
unfolding none_fits
none-fits t h = let r = (claims t h).refused in (λ e. r.0 (eqb-true (best_plan t) 0 e), λ z. eq-eqb (best_plan t) 0 (r.1 z))

-- a plan's answer, by its outcome
abbrev pub outcome_reply : Tables → Call → Outcome → Reply
outcome_reply t c nothing = cleared t c no.none_fits (refused no.none_fits)
outcome_reply t c no_set = cleared t c no.none_fits (refused no.none_fits)
outcome_reply t c (planned es) = cleared t c 0 (plan_text t es)

module _ (s : State) (c : Call) (k : PlanCall s.tables c) where
  abbrev r : Row
  r = row s Plan

  pub plan-row : row_for s c ≡ r
  plan-row = row_is s c Plan k.enough.line (numbers-short c.line Plan k.enough.line refl)

  pub plan-number : (b : Bool) → none_fits s.tables ≡ b → number_for s c ≡ refused_if no.none_fits b
  unfolding row lowest
  plan-number b e =
      ap (refusal (length c.work) (length c.output) c.place) plan-row ∙ roomy (length c.work) (length c.output) c.place r k.enough.free
      ∙ rw (ne_eqb (length s.tables.loads) 0 (λ e. absurd (omega (arith, k.loads))), le-ltb (length c.work) (cells_of s.tables) k.enough.cells, e) (last-cause no.none_fits b)

  -- what it answers where none fits, and else
  plan-answers : (b : Bool) → none_fits s.tables ≡ b
      → answer s c ≡ cleared s.tables c (refused_if no.none_fits b) (pick b (refused no.none_fits) (plan_text s.tables (plan_entries s.tables)))
  unfolding text row work_after plan_text
  plan-answers true e = answer_at s c no.none_fits r (plan-number true e) plan-row
  plan-answers false e = answer_at s c 0 r (plan-number false e) plan-row

  -- and so by what a plan finds
  pub plan-answer : answer s c ≡ outcome_reply s.tables c (outcome (best_plan s.tables) (plan_entries s.tables))
  unfolding none_fits
  plan-answer = plan-answers (none_fits s.tables) refl ∙ go (best_plan s.tables)
    where
      go : (v : ℕ) → cleared s.tables c (refused_if no.none_fits (eqb v 0)) (pick (eqb v 0) (refused no.none_fits) (plan_text s.tables (plan_entries s.tables)))
          ≡ outcome_reply s.tables c (outcome v (plan_entries s.tables))
      go zero = refl
      go (suc v) = rw (ne_eqb (suc v) 0 (λ z. absurd (omega (arith, z))))

  module _ (h : Within s) where
    found : none_fits s.tables ≡ false → PlanAnswered s.tables c (answer s c) (plan_entries s.tables)
    unfolding none_fits text row work_after plan_text
    found e =
        let t = s.tables in
        let p = (claims t h.tables).planned (positive (eqb-false (best_plan t) 0 e)) in
        let a = answer_at s c 0 r (plan-number false e) plan-row in
        record {
          shown = p;
          set = ap (λ (r : Reply). printed_set c r) a
              ∙ plan-set t c (plan_entries t) (zeroed (cells_of t) c.work) p.loads.each (omega (arith, k.enough.free, planned-fits t h.tables e));
          answered = a;
        }

    number_is : (b : Bool) → none_fits s.tables ≡ b → (answer s c).number ≡ refused_if no.none_fits b
    unfolding answer
    number_is b e = plan-number b e

    pub plan-right : PlanRight s.tables c (answer s c)
    plan-right = go (none_fits s.tables) refl
      where
        go : (b : Bool) → none_fits s.tables ≡ b → PlanRight s.tables c (answer s c)
        go true e = record { answered = inl (number_is true e); nine = (λ n. (none-fits s.tables h.tables).0 e, λ z. number_is true e) }
        go false e =
            let f = found e in
            record {
              answered = inr (plan_entries s.tables, f);
              nine = (λ n. absurd (omega (arith, number_is false e)), λ z. absurd (z (shown_set (plan_entries s.tables)) f.shown.optimum.allowed f.shown.optimum.fits));
            }
