-- What `last` gives in a list of calls: the outcome of the latest plan while it is current, as `plan` would print it there.
-- It stands for request Five of paper 02: "`last` shows the latest outcome of `plan`, refusal 9 included (returned as 9), without touching work
-- and without planning anew" and the sentences after it. Assumes nothing.
use Rattle.std.specs.Prelude.{◌+◌, ◌≤◌, ◌≡◌, Bool, true, false, ◌&&◌, List, [], ◌∷◌, ◌↔◌, length}
use Rattle.lists.specs.Tests.{pick}
use Rattle.lines.specs.declared.Command.{Command}
use Rattle.lines.specs.declared.Command.TheVariants as line
use Rattle.lines.specs.Text.{same}
use Rattle.lines.specs.Grammar.{parse, line_command}
use Rattle.lines.specs.Answers.{ok, refused, run_bytes}
use Rattle.tables.specs.Refusals as no
use Rattle.tables.specs.Tables.{Tables}
use Rattle.meaning.specs.Best.{best_plan}
use Rattle.meaning.specs.Choice.{plan_entries}
use Rattle.runs.specs.Outcome.{Outcome, nothing, no_set, planned, found}
use Rattle.calls.specs.State.{State, StoredState, stored_state, state_of}
use Rattle.calls.specs.Rows.{plan_text}
use Rattle.calls.specs.Printing.{has_outcome}
use Rattle.calls.specs.Calls.{Call, Reply, Done, Exchange, written_by, reply, after, answer}
use Rattle.calls.specs.Portions.{Event, on_line, on_portion, after_portion}
use Rattle.calls.specs.Demand2.{Enough}

-- ---- is there a current plan?
-- "Any line that printed `ok` counts as a change, and no other, even if every table stayed equal."
abbrev pub printed_ok : Exchange → Bool
printed_ok x = same (written_by x.call x.done.reply) ok

-- is it `plan`?
abbrev pub asks_plan : Command → Bool
asks_plan (line.Change c) = false
asks_plan line.Plan = true
asks_plan (line.Check σ n) = false
asks_plan (line.Save f) = false
asks_plan line.Last = false
asks_plan (line.Need v) = false
asks_plan line.Broken = false
asks_plan line.TooLong = false

-- "A plan, or its refusal 9, stores its outcome"
abbrev pub is_outcome : Exchange → Bool
is_outcome x = asks_plan (line_command x.call.line) && has_outcome x.done.reply.number

-- after a call, and after a list of calls: "It is shown only while no accepted change has come since". "Refused commands don't make it old."
abbrev pub current_after : Bool → Exchange → Bool
current_after b x = pick (printed_ok x) false (pick (is_outcome x) true b)

abbrev pub current : Bool → List Event → Bool
current b [] = b
current b (on_line x ∷ xs) = current (current_after b x) xs
-- "the answer, which `last` doesn't show" of request Eleven
current b (on_portion x ∷ xs) = current b xs

-- the outcome that is kept then: that of a plan of the tables, which have not changed since; else none
abbrev pub kept_outcome : (is_current : Bool) → Tables → Outcome
kept_outcome b t = pick b (found (best_plan t) (plan_entries t)) nothing

-- ---- a call on `last`. (It asks for no cells: "without planning anew".)
pub record LastCall (c : Call) : Type 0 where
  pub line : parse c.line ≡ line.Last
  pub free : c.place + run_bytes ≤ length c.output

-- what is stored, as it is shown: "refusal 9 included (returned as 9)"; "12, no current plan"
abbrev pub shown_as : Tables → Outcome → Call → Reply
shown_as t nothing c = reply c no.no_plan (refused no.no_plan) c.work
shown_as t no_set c = reply c no.none_fits (refused no.none_fits) c.work
shown_as t (planned es) c = reply c 0 (plan_text t es) c.work

-- "Of any other planner it shows what is stored": every planner that keeps the limits, which stays as it was
abbrev pub StoredShown : StoredState → Call → Done → Type 0
StoredShown p c d = d ≡ record { state = p; reply = shown_as (state_of p).tables (state_of p).outcome c }

-- ---- and in a list of calls
-- what it gives, and what it leaves, in a state where there is a current plan, or none
pub record LastRight (is_current : Bool) (s : State) (x : Exchange) : Type 0 where
  -- it "equals what `plan` with enough cells would print": number, count and bytes
  pub shown : is_current ≡ true → (d : Call) → Enough s.tables d
      → (x.done.reply.number ≡ (answer s d).number) × (x.done.reply.count ≡ (answer s d).count)
      × (written_by x.call x.done.reply ≡ written_by d (answer s d))
  -- "12, no current plan", exactly then
  pub refusal : is_current ≡ false → x.done.reply ≡ reply x.call no.no_plan (refused no.no_plan) x.call.work
  pub twelve : (x.done.reply.number ≡ no.no_plan) ↔ (is_current ≡ false)
  -- "without touching work"; and the planner is as it was
  pub work : x.done.reply.work ≡ x.call.work
  pub planner : x.done.state ≡ stored_state s

-- of every `last` in a list of calls, for the state before the first, with a current plan or none
abbrev pub Lasts : (is_current : Bool) → State → List Event → Type 0
Lasts b s [] = Unit {0}
Lasts b s (on_line x ∷ xs) = (LastCall x.call → LastRight b s x) × Lasts (current_after b x) (after s x.call) xs
Lasts b s (on_portion x ∷ xs) = Lasts b (after_portion s x.call) xs
