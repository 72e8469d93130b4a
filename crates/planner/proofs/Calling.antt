-- A call, way out by way out: turned away, or decided and written. Assumes nothing.
use Prim.Native.Nat.{ℕ, ◌+◌, ◌-◌, ◌≤◌, ◌<◌}
use mathlib.Core.Path.{◌≡◌, refl, sym, ap, ◌∙◌}
use mathlib.Core.Bool.{Bool, false}
use mathlib.Core.List.{List}
use mathlib.Core.Logic.{◌⊎◌, inl, inr}
use native.Mathlib.Nat.{eq-zero-or-pos}
use native.Mathlib.Omega.{arith}
use borrow.Rule.Slice.PartMut.{put_mid}
use lib.ListN.{length, take, drop}
use lib.Seq.{sets}
use Rattle.lines.specs.Saved.{saved}
use Rattle.lines.specs.Answers.{number_of, numbered, text_of, Wrote}
use Rattle.lines.proofs.Wrote.{free_back}
use Rattle.tables.specs.Refusals as no
use Rattle.calls.specs.State.{StoredState, stored_state, keeps}
use Rattle.calls.specs.Rows.{Row, bytes_of, causes_of}
use Rattle.calls.specs.Causes.{lowest}
use Rattle.calls.specs.Effects.{state_by}
use Rattle.calls.specs.Printing.{text, work_after}
use Rattle.calls.specs.Calls.{Call, row_for, number_for, answer_by, handled, called_if, called}
use Rattle.calls.proofs.State.{places, kept-within, kept-stored}
use Rattle.calls.proofs.Rows.{Right, line-right}
use Rattle.calls.proofs.Refusals.{past_one, after-number, refused-state}
use Rattle.calls.proofs.Answers.{no_room, roomy, called-stored, answer_at}
use Rattle.calls.proofs.Work.{unsearched}
use Rattle.calls.proofs.Keeps.{text-fits}
use Rattle.planner.specs.declared.Planner.{Planner}
use Rattle.planner.specs.declared.search.Decided.{Decided}
use Rattle.planner.specs.Planner.{held, state_in, Lawful}
use Rattle.planner.specs.Decided.{entries_shown, Decision, decision, decided_by, decided}
use Rattle.planner.specs.Calls.{done_of, turned_away}
use Rattle.planner.proofs.Commands.{load-count}
use Rattle.planner.proofs.Deciding.{answered-number, answered-text}

-- a planner that breaks a limit
pub broken : (p : Planner) (c : Call) → keeps (held p) ≡ false → done_of (turned_away p) c.output c.work ≡ called (held p) c
unfolding called
broken p c e = ap (λ (b : Bool). called_if b (held p) c) (sym e)

module _ (p : Planner) (h : Lawful p) (c : Call) where
  abbrev r : Row
  r = row_for (state_in p) c

  x : Right (state_in p) (length c.work) r
  x = line-right (state_in p) (length c.work) c.line

  pub handles : called (held p) c ≡ handled (state_in p) c
  handles = ap (λ (x : StoredState). called x c) (kept-stored (held p) h) ∙ called-stored (state_in p) (kept-within (held p) h) c

  -- with this number
  given_by : (n : ℕ) → number_for (state_in p) c ≡ n → called (held p) c ≡ record { state = stored_state (state_by (state_in p) n r); reply = answer_by c n r }
  given_by n e =
      let after = after-number (state_in p) c ∙ ap (λ (i : ℕ). state_by (state_in p) i r) e in
      let answered = answer_at (state_in p) c n r e refl in
      handles ∙ (λ i. record { state = stored_state (after i); reply = answered i })

  -- too few free bytes, or a place past the end
  pub turned : length c.output < c.place + bytes_of r → done_of (turned_away p) c.output c.work ≡ called (held p) c
  unfolding text
  turned less =
      let one = given_by no.unusable (no_room (length c.work) (length c.output) c.place r less) in
      let state = kept-stored (held p) h ∙ ap stored_state (sym (refused-state (state_in p) no.unusable r (omega arith) refl)) in
      let work = sym (unsearched no.unusable r c.work refl) in
      (λ i. record { state = state i; reply = record { number = no.unusable; count = 0; output = c.output; work = work i } }) ∙ sym one

  -- the number of a row where there is room
  abbrev pub row_number : ℕ
  row_number = lowest (causes_of (length c.work) r)

  -- what was decided, and the work after it
  module _ (d : Decided) (is : decision d ≡ decided (state_in p) (length c.work) r) where
    number_is : number_of (numbered d.answer) ≡ row_number
    unfolding decided_by
    number_is = ap (λ (d : Decision). number_of d.answer) is ∙ answered-number x row_number

    -- the text that is written
    abbrev pub to_write : List ℕ
    to_write = text_of (numbered d.answer) (entries_shown d.run p.tables.loads.count) (saved (state_in p).tables)

    text-is : to_write ≡ text row_number r
    unfolding decided_by
    text-is =
        ap (λ (n : ℕ). text_of (numbered d.answer) (entries_shown d.run n) (saved (state_in p).tables)) (load-count p h)
        ∙ ap (λ (d : Decision). text_of d.answer (entries_shown d.run (length (state_in p).tables.loads)) (saved (state_in p).tables)) is
        ∙ answered-text x (kept-within (held p) h) (places p.tables h.tables) row_number (λ e. e) (λ e. absurd (omega (arith, e, past_one x (omega (arith, e)))))

    -- it fits the free bytes
    pub text-few : length to_write ≤ bytes_of r
    text-few = rw text-is (text-fits (state_in p) (kept-within (held p) h) (length c.work) row_number x (go (eq-zero-or-pos row_number)) (λ e. e))
      where
        go : (row_number ≡ 0) ⊎ (0 < row_number) → row_number ≤ no.greatest
        go (inl e) = omega (arith, e)
        go (inr l) = (past_one x l).1

    pub written : c.place + bytes_of r ≤ length c.output → (m w : List ℕ) (i n : ℕ) → i ≡ number_of (numbered d.answer)
        → Wrote (take (length c.output - c.place) (drop c.place c.output)) m 0 n to_write
        → w ≡ work_after (number_of (numbered d.answer)) r c.work
        → record { state = held d.planner; reply = record { number = i; count = n; output = put_mid c.place (length c.output - c.place) c.output m; work = w } } ≡ called (held p) c
    unfolding decided_by
    written room m w i n number wrote worked =
        let after = ap (λ (d : Decision). held d.planner) is in
        let count : n ≡ length (text row_number r) = omega (arith, wrote.end, ap length text-is) in
        let output = free_back c.place c.output m (omega arith) wrote ∙ ap (sets c.output c.place) text-is in
        let work = worked ∙ ap (λ (i : ℕ). work_after i r c.work) number_is in
        let given = number ∙ number_is in
        (λ j. record { state = after j; reply = record { number = given j; count = count j; output = output j; work = work j } })
        ∙ sym (given_by row_number (roomy (length c.work) (length c.output) c.place r room))
