-- What `need` gives, of every planner that keeps the limits, and in a list of calls.
-- It stands for request Nine of paper 02: "`need,v` prints `need,b`, where b is the least budget, at most the one in force, whose plan has worth v or
-- more" and the sentences after it. Assumes nothing.
use Rattle.std.specs.Prelude.{ℕ, ◌+◌, ◌≤◌, ◌<◌, ◌≡◌, true, List, [], ◌∷◌, ◌⊎◌, ◌↔◌, length}
use Rattle.lines.specs.declared.Command.TheVariants as line
use Rattle.lines.specs.Grammar.{parse}
use Rattle.lines.specs.Answers.{refused, need_line, free_bytes}
use Rattle.tables.specs.Refusals as no
use Rattle.tables.specs.Tables.{Tables}
use Rattle.tables.specs.Limits.{need_in}
use Rattle.meaning.specs.Sets.{NoneFits}
use Rattle.meaning.specs.Choice.{plan_entries}
use Rattle.meaning.specs.Cells.{cells_of}
use Rattle.meaning.specs.Need.{Missed, Least}
use Rattle.calls.specs.State.{State, StoredState, stored_state}
use Rattle.calls.specs.Calls.{Call, Reply, Done, cleared, after}
use Rattle.calls.specs.Portions.{Event, on_line, on_portion, after_portion}

-- a `need,v` that none of the numbers 1 to 8 refuses: "v is 0 to 64,000", to 128,000 with request Ten. "It needs a plan's cells"
pub record NeedCall (t : Tables) (v : ℕ) (c : Call) : Type 0 where
  pub line : parse c.line ≡ line.Need v
  pub free : c.place + free_bytes ≤ length c.output
  pub loads : 0 < length t.loads
  pub value : need_in t.places v ≡ true
  pub cells : cells_of t ≤ length c.work

-- "`need,v` prints `need,b`", and "leaves the cells 0 as a plan does", with its answer and at 9 and 15
pub record BudgetShown (t : Tables) (v : ℕ) (c : Call) (r : Reply) (b : ℕ) : Type 0 where
  pub least : Least t v b
  pub answered : r ≡ cleared t c 0 (need_line b)

-- its answer or, exactly in their cases, 9 and 15; and the planner is as it was
pub record NeedRight (t : Tables) (v : ℕ) (p : StoredState) (c : Call) (d : Done) : Type 0 where
  pub answered : (d.reply.number ≡ no.none_fits) ⊎ (d.reply.number ≡ no.too_poor) ⊎ ((b : ℕ) × BudgetShown t v c d.reply b)
  -- "says 9 when no allowed set fits the budget in force"
  pub nine : (d.reply.number ≡ no.none_fits) ↔ NoneFits t
  pub no_set : NoneFits t → d.reply ≡ cleared t c no.none_fits (refused no.none_fits)
  -- "15, the plan at the budget in force has worth below v, tested after 9; its work cells are left 0"
  pub fifteen : (d.reply.number ≡ no.too_poor) ↔ Missed t v t.budget (plan_entries t)
  pub poor : Missed t v t.budget (plan_entries t) → d.reply ≡ cleared t c no.too_poor (refused no.too_poor)
  pub planner : d.state ≡ p

-- of every `need` in a list of calls, for the state before the first
abbrev pub Needs : State → List Event → Type 0
Needs s [] = Unit {0}
Needs s (on_portion x ∷ xs) = Needs (after_portion s x.call) xs
Needs s (on_line x ∷ xs) = ((v : ℕ) → NeedCall s.tables v x.call → NeedRight s.tables v (stored_state s) x.call x.done) × Needs (after s x.call) xs
