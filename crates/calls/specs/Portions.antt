-- A portion of a plan: what the call returns, and what it leaves.
-- It stands for request Eleven of paper 02, sentence by sentence. What a filling is, over a list of calls, stands in `Fillings`. Where the paper leaves
-- figures and answer free, `Fills` and `Answers` say what holds of them all the same. Assumes nothing.
use Rattle.std.specs.Prelude.{ℕ, zero, suc, min, ◌+◌, ◌-◌, ◌<◌, ◌≡◌, Bool, true, false, not, List, [], ◌∷◌, ◌⊎◌, eqb, ltb, length, take, drop}
use Rattle.lists.specs.Tests.{pick}
use Rattle.lines.specs.Text.{bytes}
use Rattle.lines.specs.Answers.{refused, run_bytes}
use Rattle.tables.specs.Refusals as no
use Rattle.tables.specs.Tables.{Tables}
use Rattle.tables.specs.Limits.{between}
use Rattle.tables.specs.declared.entry.Entry.{Entry}
use Rattle.meaning.specs.Cells.{cells_of, Holding}
use Rattle.runs.specs.Outcome.{planned, range_of, outcome_in}
use Rattle.calls.specs.State.{State, StoredState, stored_state, state_of, keeps}
use Rattle.calls.specs.Rows.{Cause, ◌if◌, plan_text}
use Rattle.calls.specs.Causes.{lowest}
use Rattle.calls.specs.Calls.{Call, Reply, Exchange, cleared, answer}

-- ---- the call
-- "A new library call may fill at most n cells"; it brings output, place and work as a line does
pub record PortionCall : Type 0 where
  pub most : ℕ
  pub output : List ℕ
  pub place : ℕ
  pub work : List ℕ

-- "and reports how many it filled"; with number and count, and output and work as it leaves them
pub record PortionDone : Type 0 where
  pub state : StoredState
  pub filled : ℕ
  pub reply : Reply

-- `plan`, with the same output, place and work
abbrev pub plan_call : PortionCall → Call
plan_call c = record { line = bytes "plan"; output = c.output; place = c.place; work = c.work }

-- ---- what refuses it
-- "n from 1 to 16,384 (else 5)"
abbrev pub most_portion : ℕ
most_portion = 16384

-- "It meets refusals 1, 4 and 8 where `plan` does": by n, the length of the output, the place in it, and the cells of the work
unfoldable pub portion_causes : State → (most room place cells : ℕ) → List Cause
portion_causes s n room place cells =
    let t = s.tables in
    (no.unusable if ltb room (place + run_bytes))
    ∷ (no.no_loads if eqb (length t.loads) 0)
    ∷ (no.out_of_range if not (between 1 most_portion n))
    ∷ (no.too_few_cells if ltb cells (cells_of t))
    ∷ []

abbrev pub causes_for : State → PortionCall → List Cause
causes_for s c = portion_causes s c.most (length c.output) c.place (length c.work)

unfoldable pub portion_number : State → PortionCall → ℕ
portion_number s c = lowest (causes_for s c)

-- ---- what it counts
-- "the cells still open"
abbrev pub open_cells : State → ℕ
open_cells s = cells_of s.tables - s.filled

-- "reports how many it filled: the lesser of n and the cells still open"; "these and 5 report 0"
abbrev pub portion_fills : (number : ℕ) → State → PortionCall → ℕ
portion_fills zero s c = min c.most (open_cells s)
portion_fills (suc n) s c = 0

-- the count of filled cells after it: "Only an accepted change and the answer .. start the filling over."
abbrev pub count_by : (number : ℕ) → State → PortionCall → ℕ
count_by zero s c = pick (eqb (open_cells s) 0) 0 (s.filled + min c.most (open_cells s))
count_by (suc n) s c = s.filled

-- "No such call changes a table", nor the outcome beside them: "the answer, which `last` doesn't show"
abbrev pub with_filled : State → (filled : ℕ) → State
with_filled s n = record { tables = s.tables; outcome = s.outcome; filled = n }

abbrev pub after_portion : State → PortionCall → State
after_portion s c = with_filled s (count_by (portion_number s c) s c)

-- ---- what it gives
-- "before the answer no output is written"
abbrev pub silent : PortionCall → (number : ℕ) (work : List ℕ) → Reply
silent c n w = record { number = n; count = 0; output = c.output; work = w }

-- the cells from .. to are filled: "A call changes no cell but those it fills", and they hold the best of their branch or row if those before them did
pub record Fills (t : Tables) (c : PortionCall) (from to : ℕ) (r : Reply) : Type 0 where
  pub silence : r ≡ silent c 0 r.work
  pub below : take from r.work ≡ take from c.work
  pub above : drop to r.work ≡ drop to c.work
  pub holds : Holding t c.work from → Holding t r.work to

-- the load lines of a plan, every figure in range for the tables
pub record Shows (t : Tables) (c : Call) (r : Reply) (es : List Entry) : Type 0 where
  pub inside : outcome_in (range_of t) (planned es) ≡ true
  pub shown : r ≡ cleared t c 0 (plan_text t es)

-- the answer, as of a call c on `plan`, which "leaves the work as `plan` does": "exactly `plan`'s answer", if every cell holds what it is to hold; and in
-- any case 9 or a plan's lines
pub record Answers (s : State) (c : Call) (r : Reply) : Type 0 where
  pub formed : (r ≡ cleared s.tables c no.none_fits (refused no.none_fits)) ⊎ ((es : List Entry) × Shows s.tables c r es)
  pub right : Holding s.tables c.work (cells_of s.tables) → r ≡ answer s c

-- on a state within the limits
pub record Portioned (s : State) (c : PortionCall) (d : PortionDone) : Type 0 where
  pub state : d.state ≡ stored_state (after_portion s c)
  pub filled : d.filled ≡ portion_fills (portion_number s c) s c
  -- "these and 5 report 0, and before the answer no output is written"; "a refusal before the answer changes none"
  pub refusal : 0 < portion_number s c → d.reply ≡ silent c (portion_number s c) c.work
  pub fills : portion_number s c ≡ 0 → 0 < open_cells s → Fills s.tables c s.filled (s.filled + d.filled) d.reply
  pub answers : portion_number s c ≡ 0 → open_cells s ≡ 0 → Answers s (plan_call c) d.reply

-- refused with this number: everything is left as it was
abbrev pub portion_refused : StoredState → PortionCall → (number : ℕ) → PortionDone
portion_refused p c n = record { state = p; filled = 0; reply = silent c n c.work }

-- on any planner: "a planner handed in that breaks a limit" is 1
abbrev pub portioned_if : (kept : Bool) → StoredState → PortionCall → PortionDone → Type 0
portioned_if true p c d = Portioned (state_of p) c d
portioned_if false p c d = d ≡ portion_refused p c no.unusable

unfoldable pub Portions : StoredState → PortionCall → PortionDone → Type 0
Portions p c d = portioned_if (keeps p) p c d

-- ---- a portion that was made, and a call of either sort: "demand 3's list may hold such calls among its lines"
pub record Portion : Type 0 where
  pub call : PortionCall
  pub done : PortionDone

pub data Event : Type 0 where
  on_line : Exchange → Event
  on_portion : Portion → Event
