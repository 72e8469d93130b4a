-- What an accepted drop gives: the tables without that load, as if they had been entered without it.
-- It stands for request Three of paper 02: "A plan after a drop is the plan of a tree entered without that load" and the sentences before it.
-- Assumes nothing.
use Rattle.std.specs.Prelude.{ℕ, zero, suc, ◌-◌, ◌≡◌, true, List, [], ◌∷◌, map, length}
use Rattle.lists.specs.Each.{Each}
use Rattle.lines.specs.declared.SaveForm.TheVariants.{Kinds}
use Rattle.lines.specs.declared.Change.{Change}
use Rattle.lines.specs.declared.Change.TheVariants as to
use Rattle.lines.specs.declared.Command.TheVariants as line
use Rattle.lines.specs.Input.{lines}
use Rattle.lines.specs.Grammar.{line_command}
use Rattle.lines.specs.Saved.{saved, changes_text}
use Rattle.tables.specs.Tables.{Tables}
use Rattle.tables.specs.Stored.{stored}
use Rattle.tables.specs.Limits.{load_in}
use Rattle.tables.specs.Changes.{add_load, fallen, drop_load}
use Rattle.meaning.specs.Leaving.{Left}
use Rattle.calls.specs.State.{StoredState, state_of, Kept}
use Rattle.calls.specs.Rows.{load}
use Rattle.calls.specs.Calls.{Call, Done, called}
use Rattle.calls.specs.Demand3.{Exchange, History, on_lines, last}
use Rattle.calls.specs.Saves.{Step, Takes, lines_of, AllFree, Accepted}

-- ---- the commands of a tree entered without load k
-- what the line of a load gives, and every other line
abbrev pub if_load : {A : Type 0} → (ℕ → ℕ → ℕ → ℕ → A) → A → Change → A
if_load f a to.Clear = a
if_load f a (to.Book s g) = a
if_load f a (to.Start q) = a
if_load f a (to.End g) = a
if_load f a (to.Rule q m g t) = a
if_load f a (to.Row g q h) = a
if_load f a (to.Load p w v t) = f p w v t
if_load f a (to.Power k w) = a
if_load f a (to.Worth k v) = a
if_load f a (to.Budget b) = a
if_load f a (to.Drop k) = a

-- without the line of the load that comes after so many others
unfoldable pub without_line : (others : ℕ) → List Change → List Change
without_line zero [] = []
without_line zero (c ∷ cs) = if_load (λ p w v t. cs) (c ∷ without_line zero cs) c
without_line (suc n) [] = []
without_line (suc n) (c ∷ cs) = c ∷ if_load (λ p w v t. without_line n cs) (without_line (suc n) cs) c

-- "higher numbers fall by one, in parents too"
abbrev pub with_parent : (k : ℕ) → Change → Change
with_parent k c = if_load (λ p w v t. to.Load (fallen k p) w v t) c c

abbrev pub entered_without : (k : ℕ) → List Change → List Change
entered_without k cs = map (with_parent k) (without_line (k - 1) cs)

-- ---- an accepted drop
-- a call on `drop,k`, and what it gave: number 0
pub record DropCall (c : Call) (k : ℕ) (d : Done) : Type 0 where
  pub line : line_command c.line ≡ line.Change (to.Drop k)
  pub accepted : d.reply.number ≡ 0

-- the calls xs entered into planner p what planner q holds: every further call, a plan too, gives what it gives on q, and leaves the same planner
pub record SameAnswers (q p : StoredState) (xs : List Exchange) : Type 0 where
  pub accepted : Each Accepted xs
  pub tables : (last p (on_lines xs)).tables ≡ q.tables
  pub answers : (c : Call) → called (last p (on_lines xs)) c ≡ called q c

-- planner q after load k has left tables t, with n places for loads
pub record Dropped (n : ℕ) (t : Tables) (k : ℕ) (q : StoredState) : Type 0 where
  -- it keeps the limits, with one load fewer
  pub tables : q.tables ≡ stored (drop_load t k)
  pub kept : Kept n q
  pub fewer : suc (length (drop_load t k).loads) ≡ length t.loads
  -- "Dropping the only load leaves an empty tree."
  pub emptied : length t.loads ≡ 1 → (drop_load t k).loads ≡ []
  -- "The place freed can be filled again": a load whose figures are in range is taken
  pub filled : (p w v m : ℕ) → load_in (length t.loads) (load p w v m) ≡ true → Step (drop_load t k) (to.Load p w v m) (add_load (drop_load t k) (load p w v m))
  -- its save is the save before, without that load; every tables take these lines, and end as those after the drop; and a planner into which they
  -- were entered, from any lawful state, answers as it does
  pub saves : saved (state_of q).tables ≡ entered_without k (saved t)
  pub rebuilt : (u : Tables) → u.places ≡ t.places → Takes u (entered_without k (saved t)) (drop_load t k)
  pub entered : (p : StoredState) → Kept n p → (xs : List Exchange) → History p (on_lines xs)
      → lines_of xs ≡ lines (changes_text Kinds (entered_without k (saved t))) → AllFree xs → SameAnswers q p xs
  -- and its tree is the tree before, without that leaf
  pub left : Left t k
