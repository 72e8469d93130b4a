-- What refuses a call, and with which number.
-- It stands for the table of "Causes and numbers" of paper 01; the rows from 2 on stand in `Rows`. Assumes nothing.
use Rattle.std.specs.Prelude.{ℕ, ◌+◌, ◌≤◌, ◌<◌, ◌≡◌, true, false, List, [], ◌∷◌, ltb}
use Rattle.tables.specs.Refusals as no
use Rattle.calls.specs.Rows.{Cause, ◌if◌, Row, bytes_of, causes_of}

-- "The lowest number that applies is given"; "0 if accepted"
unfoldable pub lowest : List Cause → ℕ
lowest [] = 0
lowest (c ∷ cs) = elim c.applies [ true ↦ c.number | false ↦ lowest cs ]

-- "fewer free output bytes than needed", so a place past the end has too few; then those of the row
unfoldable pub all_causes : (cells room place : ℕ) → Row → List Cause
all_causes n room place r = (no.unusable if ltb room (place + bytes_of r)) ∷ causes_of n r

-- the number of a row, given the cells, the length of the output and the place in it
unfoldable pub refusal : (cells room place : ℕ) → Row → ℕ
refusal n room place r = lowest (all_causes n room place r)

-- a cause of the list with this number applies
pub data Applies (n : ℕ) : List Cause → Type 0 where
  here : {c : Cause} {cs : List Cause} → c.number ≡ n → c.applies ≡ true → Applies n (c ∷ cs)
  there : {c : Cause} {cs : List Cause} → Applies n cs → Applies n (c ∷ cs)

-- "The lowest number that applies is given. Each is given exactly in its case."
pub record Lowest (cs : List Cause) (n : ℕ) : Type 0 where
  pub given : 0 < n → Applies n cs
  pub least : (k : ℕ) → Applies k cs → (0 < n) × (n ≤ k)
