-- The save of more loads than a planner has places for, fed to it: it meets refusal 6 at the line of the first load that has no place, and not before.
-- It stands for "A save of more than 64 loads meets refusal 6 at its sixty-fifth load line on a planner as it stood after request Eight or Nine" of
-- request Ten of paper 02, over the limit of loads as a parameter: the planner as it stood is the one of limit 64. Its lines had at most 80 bytes and
-- its numbers five digits, and every line of a save keeps to that: `AsBefore` of `ReadBack` in crate lines. Assumes nothing.
use Rattle.std.specs.Prelude.{ℕ, ◌<◌, ◌≡◌, List, [], ◌∷◌, ◌++◌, map, length, get_or, take}
use Rattle.lines.specs.declared.SaveForm.{SaveForm}
use Rattle.lines.specs.declared.Change.{Change}
use Rattle.lines.specs.declared.Change.TheVariants as to
use Rattle.lines.specs.Written.{written}
use Rattle.lines.specs.Saved.{load_change, book_changes}
use Rattle.tables.specs.Refusals as no
use Rattle.tables.specs.Tables.{Tables, no_load}
use Rattle.calls.specs.Demand3.{Exchange}
use Rattle.calls.specs.Full.{number_at}
use Rattle.calls.specs.Saves.{lines_of}

-- what a save has before the line of load n + 1: `clear`, the book, and the first n loads
abbrev pub saved_before : (n : ℕ) → Tables → List Change
saved_before n t = (to.Clear ∷ []) ++ book_changes t.book ++ map load_change (take n t.loads)

-- the calls xs on the lines of the save of tables t, on a planner with n places for loads
pub record Overfull (f : SaveForm) (n : ℕ) (t : Tables) (xs : List Exchange) : Type 0 where
  -- the lines before are accepted
  pub accepted : (j : ℕ) → j < length (saved_before n t) → number_at xs j ≡ 0
  -- the next is the line of load n + 1, and is refused with 6
  pub line : get_or (lines_of xs) (length (saved_before n t)) [] ≡ written f (load_change (get_or t.loads n no_load))
  pub full : number_at xs (length (saved_before n t)) ≡ no.full
