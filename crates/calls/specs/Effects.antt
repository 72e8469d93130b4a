-- What a line changes: the tables, and beside them the outcome and the count of filled cells.
-- It stands for "an accepted line changes them as its row below says, a refused one not at all" of paper 01, for "A plan, or its refusal 9,
-- stores its outcome beside the tables and leaves only these as they were; an accepted change wipes it" of request Five of paper 02, and for "Only an
-- accepted change and the answer .. start the filling over" of its request Eleven.
-- Assumes nothing.
use Rattle.std.specs.Prelude.{ℕ, zero, suc, List, eqb}
use Rattle.lists.specs.Tests.{pick}
use Rattle.tables.specs.Refusals as no
use Rattle.tables.specs.Tables.{Tables}
use Rattle.tables.specs.declared.entry.Entry.{Entry}
use Rattle.calls.specs.State.{State, plain}
use Rattle.tables.specs.Operations.{accepted}
use Rattle.runs.specs.Outcome.{Outcome, nothing, no_set, planned}
use Rattle.calls.specs.Rows.{Row, changes, shows, works, effect_of, line_row}
use Rattle.calls.specs.Causes.{refusal}

-- a row whose number is 0 acts
abbrev pub acted : Tables → (number : ℕ) → Row → Tables
acted t zero r = effect_of t r
acted t (suc n) r = t

-- the tables after a line, "from the calls' lines, output lengths and places alone". (No change's number depends on the cells.)
unfoldable pub changed : Tables → (line : List ℕ) (room place : ℕ) → Tables
changed t l room place = let r = line_row (plain t) l in acted t (refusal 0 room place r) r

-- what a plan with this number stores: its entries, that none fits, or nothing new
abbrev pub found_by : (number : ℕ) → (entries : List Entry) → Outcome → Outcome
found_by zero es o = planned es
found_by (suc n) es o = pick (eqb (suc n) no.none_fits) no_set o

-- the outcome after a row with this number: wiped by "any line that printed `ok`", and stored by a plan and its refusal 9. "Refused commands don't
-- make it old." What works without storing leaves it.
abbrev pub outcome_by : (number : ℕ) → Row → Outcome → Outcome
outcome_by n (changes x) o = accepted n nothing o
outcome_by n (shows b cs x) o = o
outcome_by n (works k b m before after x) o = pick k (found_by n x.entries o) o

-- the count of filled cells after it: an accepted change starts the filling over, and no other line touches it
abbrev pub filled_by : (number : ℕ) → Row → (filled : ℕ) → ℕ
filled_by n (changes x) m = accepted n 0 m
filled_by n (shows b cs x) m = m
filled_by n (works k b cells before after x) m = m

-- the state after it
abbrev pub state_by : State → (number : ℕ) → Row → State
state_by s n r = record { tables = acted s.tables n r; outcome = outcome_by n r s.outcome; filled = filled_by n r s.filled }
