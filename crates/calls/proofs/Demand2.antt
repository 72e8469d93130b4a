-- Demand 2: a check says yes exactly of the sets that the automaton accepts, and shows a run of that set. Assumes nothing.
use Prim.Native.Nat.{◌≤◌}
use mathlib.Core.Path.{◌≡◌, refl, ap, ◌∙◌}
use mathlib.Core.Bool.{Bool, true, false}
use mathlib.Core.Logic.{inl, inr}
use native.Mathlib.Omega.{arith}
use borrow.Author.Tests.{eqb-true, eqb-false, eq-eqb, ne_eqb}
use lib.ListN.{length}
use Rattle.marks.specs.declared.LoadSet.{LoadSet}
use Rattle.marks.specs.Sets.{set_width, mark_in}
use Rattle.lines.specs.declared.Command.TheVariants.{Check}
use Rattle.lines.proofs.Sizes.{check-short}
use Rattle.tables.specs.Refusals as no
use Rattle.tables.proofs.Lawful.{lawful}
use Rattle.meaning.specs.Best.{best_check}
use Rattle.meaning.specs.Choice.{check_entries}
use Rattle.meaning.proofs.Claims.{claims}
use Rattle.calls.specs.State.{State, Within}
use Rattle.calls.specs.Rows.{Row, check_text, not_allowed, row}
use Rattle.calls.specs.Causes.{lowest, refusal}
use Rattle.calls.specs.Printing.{text, zeroed, work_after}
use Rattle.calls.specs.Calls.{Call, row_for, number_for, answer}
use Rattle.calls.specs.Demand2.{CheckCall, CheckAllowed, CheckRefused, CheckRight}
use Rattle.calls.proofs.Answers.{positive, refused_if, last-cause, roomy, row_is, answer_at}

module _ (s : State) (h : Within s) (c : Call) (σ : LoadSet) (k : CheckCall s.tables c σ) where
  few : length s.tables.loads ≤ set_width
  few = let l = lawful s.tables h.tables in omega (arith, l.loads, l.places)

  abbrev r : Row
  r = row s (Check σ (length s.tables.loads))

  check-row : row_for s c ≡ r
  check-row = row_is s c (Check σ (length s.tables.loads)) k.line (check-short c.line σ (length s.tables.loads) k.line few)

  check-number : (b : Bool) → not_allowed s.tables (mark_in σ) ≡ b → number_for s c ≡ refused_if no.not_allowed b
  unfolding row lowest
  check-number b e =
      ap (refusal (length c.work) (length c.output) c.place) check-row ∙ roomy (length c.work) (length c.output) c.place r k.free
      ∙ rw (ne_eqb (length s.tables.loads) 0 (λ e. absurd (omega (arith, k.loads))), eq-eqb (length s.tables.loads) (length s.tables.loads) refl, e) (last-cause no.not_allowed b)

  found : not_allowed s.tables (mark_in σ) ≡ false → CheckAllowed s.tables c σ (answer s c) (check_entries s.tables (mark_in σ))
  unfolding not_allowed text row work_after zeroed check_text
  found e =
      let pos = positive (eqb-false (best_check s.tables (mark_in σ)) 0 e) in
      record {
        accepted = ((claims s.tables h.tables).allowed (mark_in σ)).0 pos;
        shown = (claims s.tables h.tables).checked (mark_in σ) pos;
        answered = answer_at s c 0 r (check-number false e) check-row;
      }

  none_found : not_allowed s.tables (mark_in σ) ≡ true → CheckRefused s.tables c σ (answer s c)
  unfolding not_allowed text work_after
  none_found e = record {
    rejected = λ a. absurd (omega (arith, eqb-true (best_check s.tables (mark_in σ)) 0 e, ((claims s.tables h.tables).allowed (mark_in σ)).1 a));
    answered = answer_at s c no.not_allowed r (check-number true e) check-row;
  }

  pub check-right : CheckRight s.tables c σ (answer s c)
  check-right = go (not_allowed s.tables (mark_in σ)) refl
    where
      go : (b : Bool) → not_allowed s.tables (mark_in σ) ≡ b → CheckRight s.tables c σ (answer s c)
      go true e = inr (none_found e)
      go false e = inl (check_entries s.tables (mark_in σ), found e)
