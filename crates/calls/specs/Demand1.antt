-- Demand 1: what every call gives and leaves, on any planner, whatever its fields hold, with any line, output, place and work. (The proof
-- takes the lengths of the planner's arrays, which their types give: `Sized` of State.)
-- It stands for "Causes and numbers" of paper 01: "The lowest number that applies is given. Each is given exactly in its case." and the
-- columns "returned" and "left as it was"; for the buffers of "Lines"; for the free bytes of request Two of paper 02; and for what is left beside
-- the tables of request Five; and, of a portion, for request Eleven. (That a call ends and does nothing undefined is part of the proof of every function. The judge's part stands in the
-- crates judge and planner.) Assumes nothing.
use Rattle.std.specs.Prelude.{ℕ, ◌+◌, ◌≤◌, ◌<◌, ◌≡◌, Bool, true, false, not, List, ◌∷◌, ◌⊎◌, ◌↔◌, length, take, drop}
use Rattle.lines.specs.declared.Command.{Command}
use Rattle.lines.specs.declared.Command.TheVariants as line
use Rattle.lines.specs.Grammar.{parse, line_command}
use Rattle.lines.specs.Saved.{save_bytes}
use Rattle.lines.specs.Answers.{refused, free_bytes, run_bytes}
use Rattle.tables.specs.Refusals as no
use Rattle.meaning.specs.Cells.{cells_of}
use Rattle.calls.specs.State.{StoredState, state_of, keeps}
use Rattle.calls.specs.Rows.{Cause, ◌if◌, bytes_of, is_change, is_show, cells_for}
use Rattle.calls.specs.Causes.{lowest, all_causes, Lowest}
use Rattle.calls.specs.Printing.{zeroed, has_outcome, searched}
use Rattle.calls.specs.Calls.{Call, row_for, Done, written_by, turned_away}
use Rattle.calls.specs.Portions.{PortionCall, PortionDone, causes_for, portion_refused}

-- every cause of the table, in its order: "a planner handed in that breaks a limit", then those of its state
abbrev pub causes_of : StoredState → Call → List Cause
causes_of p c = (no.unusable if not (keeps p)) ∷ all_causes (length c.work) (length c.output) c.place (row_for (state_of p) c)

pub record Demand1 (p : StoredState) (c : Call) (d : Done) : Type 0 where
  -- its answer, or exactly in the paper's case one numbered refusal
  pub number : Lowest (causes_of p c) d.reply.number
  pub most : d.reply.number ≤ no.greatest
  -- a refusal changes no table, and but for 9 nothing that the planner keeps
  pub tables : 0 < d.reply.number → d.state.tables ≡ p.tables
  pub state : 0 < d.reply.number → has_outcome d.reply.number ≡ false → d.state ≡ p
  -- nor does what is no change, accepted or not; and what only shows leaves the planner as it was
  pub still : is_change (row_for (state_of p) c) ≡ false → d.state.tables ≡ p.tables
  pub shows : is_show (row_for (state_of p) c) ≡ true → d.state ≡ p
  -- 1: "number, 0 bytes", and "everything" is left as it was
  pub one : d.reply.number ≡ no.unusable → d.reply ≡ turned_away c
  -- from 2 on: "number, `no,N`"
  pub prints : no.unusable < d.reply.number → written_by c d.reply ≡ refused d.reply.number
  -- "1,024 bytes must be free from there": no answer is longer than the bytes that its line needs
  pub fits : d.reply.count ≤ bytes_of (row_for (state_of p) c)
  -- "Bytes before the place and after the answer keep their values."
  pub before : take c.place d.reply.output ≡ take c.place c.output
  pub behind : drop (c.place + d.reply.count) d.reply.output ≡ drop (c.place + d.reply.count) c.output
  -- "After a plan or refusal 9 those cells are 0; all other cells, and all cells after any other call, are unchanged."
  pub cleared : searched d.reply.number ≡ true → d.reply.work ≡ zeroed (cells_for (row_for (state_of p) c)) c.work
  pub unchanged : searched d.reply.number ≡ false → d.reply.work ≡ c.work

-- ---- by the command that a line asks for
-- the bytes that it needs: "1,024 bytes must be free from there"; "`plan`, `last` and `check` need 2,048 free bytes, saves 4,096" of request Ten
abbrev pub bytes_for : Command → ℕ
bytes_for (line.Change c) = free_bytes
bytes_for line.Plan = run_bytes
bytes_for (line.Check σ n) = run_bytes
bytes_for (line.Save f) = save_bytes
bytes_for line.Last = run_bytes
bytes_for (line.Need v) = free_bytes
-- "A line that breaks its form or is too long needs 1,024, its command word notwithstanding."
bytes_for line.Broken = free_bytes
bytes_for line.TooLong = free_bytes

unfoldable pub bytes_needed : (line : List ℕ) → ℕ
bytes_needed l = bytes_for (line_command l)

-- does it leave the planner as it was, whatever its number? A change and a plan may not.
abbrev pub only_shows : Command → Bool
only_shows (line.Change c) = false
only_shows line.Plan = false
only_shows (line.Check σ n) = true
only_shows (line.Save f) = true
only_shows line.Last = true
-- "It needs a plan's cells", and stores nothing
only_shows (line.Need v) = true
only_shows line.Broken = true
only_shows line.TooLong = true

-- does it work in cells?
abbrev pub looks : Command → Bool
looks (line.Change c) = false
looks line.Plan = true
looks (line.Check σ n) = false
looks (line.Save f) = false
looks line.Last = false
looks (line.Need v) = true
looks line.Broken = false
looks line.TooLong = false

-- the same of tables, output and work, by the command and not by its row
pub record ByCommand (p : StoredState) (c : Call) (d : Done) : Type 0 where
  -- "an accepted line changes them as its row below says, a refused one not at all"
  pub tables : 0 < d.reply.number → d.state.tables ≡ p.tables
  -- a plan "leaves only these as they were"
  pub plan : parse c.line ≡ line.Plan → d.state.tables ≡ p.tables
  -- what only shows leaves the planner
  pub shows : only_shows (line_command c.line) ≡ true → d.state ≡ p
  -- 1 exactly for "fewer free output bytes than needed; place past the end; a planner handed in that breaks a limit"
  pub one : (d.reply.number ≡ no.unusable) ↔ ((keeps p ≡ false) ⊎ (length c.output < c.place + bytes_needed c.line))
  -- no answer is longer than the bytes that its line needs
  pub fits : d.reply.count ≤ bytes_needed c.line
  -- "After a plan or refusal 9 those cells are 0", and `need` "leaves the cells 0 as a plan does", at 15 too
  pub cleared : looks (line_command c.line) ≡ true → searched d.reply.number ≡ true → d.reply.work ≡ zeroed (cells_of (state_of p).tables) c.work
  -- ".. and all cells after any other call, are unchanged"
  pub unchanged : (looks (line_command c.line) ≡ true → searched d.reply.number ≡ true → ⊥) → d.reply.work ≡ c.work

-- ---- of a portion of a plan
abbrev pub portion_causes_of : StoredState → PortionCall → List Cause
portion_causes_of p c = (no.unusable if not (keeps p)) ∷ causes_for (state_of p) c

abbrev pub portion_refusal : StoredState → PortionCall → ℕ
portion_refusal p c = lowest (portion_causes_of p c)

pub record PortionDemand1 (p : StoredState) (c : PortionCall) (d : PortionDone) : Type 0 where
  -- 1, 4, 5 and 8, each exactly in its case: nothing is written or filled, and everything is left as it was
  pub lowest : Lowest (portion_causes_of p c) (portion_refusal p c)
  pub refused : 0 < portion_refusal p c → d ≡ portion_refused p c (portion_refusal p c)
  -- past these the number is 0, or 9 as the answer's
  pub passed : portion_refusal p c ≡ 0 → has_outcome d.reply.number ≡ true
  -- "No such call changes a table", nor the outcome beside them
  pub tables : d.state.tables ≡ p.tables
  pub outcome : d.state.outcome ≡ p.outcome
  -- it fills n cells at most, and "changes no cell but those it fills"; no call changes a cell behind the plan's
  pub most : d.filled ≤ c.most
  pub below : 0 < d.filled → take p.filled d.reply.work ≡ take p.filled c.work
  pub above : 0 < d.filled → drop (p.filled + d.filled) d.reply.work ≡ drop (p.filled + d.filled) c.work
  pub rest : drop (cells_of (state_of p).tables) d.reply.work ≡ drop (cells_of (state_of p).tables) c.work
  -- "before the answer no output is written", and the answer is no longer than the bytes that it needs
  pub silent : 0 < d.filled → (d.reply.count ≡ 0) × (d.reply.output ≡ c.output)
  pub fits : d.reply.count ≤ run_bytes
  pub before : take c.place d.reply.output ≡ take c.place c.output
  pub behind : drop (c.place + d.reply.count) d.reply.output ≡ drop (c.place + d.reply.count) c.output
