-- What a call gives goes by the row that its line asks for: calls on lines that ask for the same row give the same. Assumes nothing.
use Prim.Native.Nat.{ℕ}
use mathlib.Core.Path.{◌≡◌, refl, sym, ap, ◌∙◌}
use mathlib.Core.Bool.{Bool, true, false}
use mathlib.Core.List.{List}
use lib.ListN.{length}
use Rattle.calls.specs.State.{State, StoredState, stored_state, state_of, keeps}
use Rattle.calls.specs.Rows.{Row, line_row}
use Rattle.calls.specs.Causes.{refusal}
use Rattle.calls.specs.Effects.{state_by}
use Rattle.calls.specs.Calls.{Call, Done, row_for, answer_by, answer, handled, called_if, called}
use Rattle.calls.proofs.Refusals.{after-number}

-- a call with another line
abbrev pub with_line : Call → (line : List ℕ) → Call
with_line c l = record { line = l; output = c.output; place = c.place; work = c.work }

-- what a call gives, by its row
done_by : State → Call → Row → Done
done_by s c r =
    let n = refusal (length c.work) (length c.output) c.place r in
    record { state = stored_state (state_by s n r); reply = answer_by c n r }

handled-by : (s : State) (c : Call) → handled s c ≡ done_by s c (row_for s c)
unfolding done_by answer
handled-by s c = λ i. record { state = stored_state (after-number s c i); reply = answer s c }

-- number, count, planner, output and work
pub row-call : (p : StoredState) (c : Call) (l : List ℕ) → ((s : State) → line_row s l ≡ line_row s c.line) → called p (with_line c l) ≡ called p c
unfolding called done_by
row-call p c l e = go (keeps p)
  where
    go : (b : Bool) → called_if b p (with_line c l) ≡ called_if b p c
    go true = handled-by (state_of p) (with_line c l) ∙ ap (done_by (state_of p) c) (e (state_of p)) ∙ sym (handled-by (state_of p) c)
    go false = refl
