-- What the line program carries from line to line and from chunk to chunk, as the definition of crate `calls` has it. Assumes nothing.
use Rattle.std.specs.Prelude.{ℕ, ◌≡◌, List, take, Result, Ok, Err}
use Rattle.calls.specs.Program.{Left, Carried, after_chunk, after_chunks, started, lent_cells}
use Rattle.planner.specs.declared.Planner.{Planner}
use Rattle.planner.specs.Planner.{held}
use Rattle.load_planner.specs.declared.session.Session.{Session}

abbrev pub lent : Planner → (output work : List ℕ) → Left
lent p o w = record { state = held p; output = o; work = w }

abbrev pub left_of : Session → Left
left_of s = lent s.planner s.out s.work

-- the bytes held are the first of the line's buffer
abbrev pub carried_of : Session → Carried
carried_of s = record { left = left_of s; begun = take s.held s.line }

-- how many bytes a read gave: none where it failed
abbrev pub count_of : {E : Type 0} → Result ℕ E → ℕ
count_of (Ok n) = n
count_of (Err e) = 0

-- a read put some bytes into its buffer, whichever they are, and they were taken as a chunk
pub record Stepped (before after : Carried) (buffer : List ℕ) : Type 0 where
  pub count : ℕ
  pub taken : after ≡ after_chunk before (take count buffer)

-- chunks were read and taken, one after the other from the start
pub record Ran (x : Carried) : Type 0 where
  pub chunks : List (List ℕ)
  pub taken : x ≡ after_chunks (started lent_cells) chunks
