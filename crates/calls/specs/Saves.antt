-- What a save gives, and what its lines give back: to any planner, and through the line program. (Its text stands in crate lines: `Saved` and,
-- with what is proved of it, `ReadBack`.)
-- It stands for request Two of paper 02: "The command `save` writes lines that rebuild the state" and the sentences after it; and for its request
-- Eight: "`save` now writes every kind, 0 too, and `save1` writes the form of request Two", "An old save, taken in and written with `save1`, comes back
-- byte for byte" and "14, `save1` while some load or load rule has a kind other than 0". Assumes nothing.
use Rattle.std.specs.Prelude.{ℕ, ◌+◌, ◌≤◌, ◌≡◌, true, false, ◌↔◌, length, replicate}
use mathlib.Core.List.{List, [], ◌∷◌, ◌++◌, map, flatten}
use Rattle.lists.specs.Each.{Each}
use Rattle.lines.specs.declared.SaveForm.{SaveForm}
use Rattle.lines.specs.declared.SaveForm.TheVariants as form
use Rattle.lines.specs.declared.Change.{Change}
use Rattle.lines.specs.declared.Command.TheVariants as line
use Rattle.lines.specs.Text.{bytes, line_feed}
use Rattle.lines.specs.Grammar.{parse}
use Rattle.lines.specs.Saved.{saved, save_text, loses_kinds, save_bytes}
use Rattle.lines.specs.Answers.{ok, refused}
use Rattle.tables.specs.Refusals as no
use Rattle.tables.specs.Tables.{Tables}
use Rattle.tables.specs.Limits.{max_loads}
use Rattle.tables.specs.Stored.{stored}
use Rattle.calls.specs.State.{StoredState, fresh, stored_state, state_of}
use Rattle.calls.specs.Rows.{changing}
use Rattle.calls.specs.Causes.{lowest}
use Rattle.calls.specs.Calls.{Call, Done, written_by, reply, called}
use Rattle.calls.specs.Demand1.{bytes_needed}
use Rattle.calls.specs.Demand3.{Exchange, on_lines, last}
use Rattle.calls.specs.Program.{printed_by, session_with}

-- ---- a save
-- "saves 4,096" of request Ten: a call on `save`, or on `save1`, that has them
pub record SaveCall (f : SaveForm) (c : Call) : Type 0 where
  pub line : parse c.line ≡ line.Save f
  pub free : c.place + save_bytes ≤ length c.output

-- number 0 and exactly these bytes, or 14 where a kind would be lost; and planner and work as they were
pub record SaveRight (f : SaveForm) (p : StoredState) (c : Call) (d : Done) : Type 0 where
  pub saved : loses_kinds f (state_of p).tables ≡ false → d ≡ record { state = p; reply = reply c 0 (save_text f (state_of p).tables) c.work }
  pub refused : loses_kinds f (state_of p).tables ≡ true → d ≡ record { state = p; reply = reply c no.kinds_in_use (refused no.kinds_in_use) c.work }
  pub fourteen : (d.reply.number ≡ no.kinds_in_use) ↔ (loses_kinds f (state_of p).tables ≡ true)

-- ---- changes, one after the other
-- one that no cause refuses, and the tables after it
pub record Step (t : Tables) (c : Change) (u : Tables) : Type 0 where
  pub accepted : lowest (changing t c).causes ≡ 0
  pub after : (changing t c).after ≡ u

-- tables take changes, and end as others: each is accepted on the tables that the one before left
pub data Takes : Tables → List Change → Tables → Type 0 where
  none : {t : Tables} → Takes t [] t
  next : {t u v : Tables} {c : Change} {cs : List Change} → Step t c u → Takes u cs v → Takes t (c ∷ cs) v

-- "lines that rebuild the state": from any tables with as many places for loads
abbrev pub Rebuilt : Tables → Type 0
Rebuilt t = (u : Tables) → u.places ≡ t.places → Takes u (saved t) t

-- ---- calls on its lines
abbrev pub lines_of : List Exchange → List (List ℕ)
lines_of xs = map (λ (x : Exchange). x.call.line) xs

-- "with the free bytes they need"
abbrev pub AllFree : List Exchange → Type 0
AllFree xs = Each (λ (x : Exchange). x.call.place + bytes_needed x.call.line ≤ length x.call.output) xs

-- "An accepted change prints `ok`."
pub record Accepted (x : Exchange) : Type 0 where
  pub number : x.done.reply.number ≡ 0
  pub prints : written_by x.call x.done.reply ≡ ok

-- "Fed to a planner in any lawful state, with the free bytes they need, the lines give equal tables, and a further save gives equal bytes.": what
-- the calls xs on planner p give, its lines being those of this text, the save of planner q in a form
pub record Restored (f : SaveForm) (q p : StoredState) (xs : List Exchange) (text : List ℕ) : Type 0 where
  pub accepted : Each Accepted xs
  pub tables : (last p (on_lines xs)).tables ≡ q.tables
  pub again : (d : Call) → SaveCall f d → written_by d (called (last p (on_lines xs)) d).reply ≡ text

-- ---- through the line program
-- an input after which a line begins: it is empty, or ends in a line feed
pub data Whole : List ℕ → Type 0 where
  empty : Whole []
  ended : (s : List ℕ) → Whole (s ++ (line_feed ∷ []))

-- the word of each form
abbrev pub save_word : SaveForm → List ℕ
save_word form.Kinds = bytes "save"
save_word form.Plain = bytes "save1"

abbrev pub save_line : SaveForm → List ℕ
save_line f = save_word f ++ (line_feed ∷ [])

-- "Commissioning wants the cabinet's tables on a laptop": after any input the save of tables t is fed back, and the command of its form writes it again
pub record FedBack (f : SaveForm) (cells : ℕ) (input : List ℕ) (t : Tables) : Type 0 where
  pub tables : (last (stored_state (fresh max_loads)) (on_lines (session_with cells (input ++ save_text f t)))).tables ≡ stored t
  pub printed : printed_by (session_with cells (input ++ save_text f t ++ save_line f))
      ≡ printed_by (session_with cells input) ++ flatten (replicate (length (saved t)) ok) ++ save_text f t
