-- What is printed, and what is left in the work.
-- It stands for "A refusal prints `no,N`" and for "After a plan or refusal 9 those cells are 0" of paper 01, and for what request Nine of paper 02 says
-- of the cells. Assumes nothing.
use Rattle.std.specs.Prelude.{ℕ, zero, suc, Bool, ◌||◌, List, [], ◌++◌, eqb, replicate, drop, Err}
use Rattle.lists.specs.Tests.{pick}
use Rattle.tables.specs.Refusals as no
use Rattle.calls.specs.Rows.{Shown, alone, shown_text, Row, shown_of, cells_for}

-- what a row with this number, 0 if accepted, is answered
abbrev pub shown_by : (number : ℕ) → Row → Shown
shown_by zero r = shown_of r
shown_by (suc n) r = alone (Err (suc n))

-- its text; refusal 1 returns "number, 0 bytes"
unfoldable pub text : (number : ℕ) → Row → List ℕ
text zero r = shown_text (shown_by 0 r)
text (suc zero) r = []
text (suc (suc n)) r = shown_text (shown_by (suc (suc n)) r)

-- "After a plan or refusal 9 those cells are 0; all other cells .. are unchanged."
unfoldable pub zeroed : ℕ → List ℕ → List ℕ
zeroed n w = replicate n 0 ++ drop n w

-- is it the number of an outcome: "A plan, or its refusal 9"?
abbrev pub has_outcome : ℕ → Bool
has_outcome n = eqb n 0 || eqb n no.none_fits

-- does a row with this number look for a set? At 15 "its work cells are left 0" too.
abbrev pub searched : ℕ → Bool
searched n = has_outcome n || eqb n no.too_poor

-- ".. and all cells after any other call, are unchanged"
unfoldable pub work_after : (number : ℕ) → Row → List ℕ → List ℕ
work_after n r w = pick (searched n) (zeroed (cells_for r) w) w
