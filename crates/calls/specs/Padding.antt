-- Calls on lines that differ only in leading zeros, lists of such calls, and the treatment that they get.
-- It stands for "Lines within the length limit that differ only in such zeros must get the same treatment in every command" of request One of
-- paper 02. Assumes nothing.
use Rattle.std.specs.Prelude.{◌≡◌, List}
use Rattle.lists.specs.Pairs.{Pairwise}
use Rattle.lines.specs.Padding.{SameLine}
use Rattle.calls.specs.State.{StoredState}
use Rattle.calls.specs.Calls.{Call}
use Rattle.calls.specs.Demand3.{Exchange, on_lines, given, last}

-- calls on two such lines, with the same output, place and work
pub record SameCall (c d : Call) : Type 0 where
  pub line : SameLine c.line d.line
  pub output : c.output ≡ d.output
  pub place : c.place ≡ d.place
  pub work : c.work ≡ d.work

-- two lists of calls that differ only so, line by line
abbrev pub SameCalls : (xs ys : List Exchange) → Type 0
SameCalls = Pairwise (λ (x y : Exchange). SameCall x.call y.call)

-- "the same treatment": number, count, output, work and planner of each call are the same, and so is the planner at the end
pub record SameTreatment (p : StoredState) (xs ys : List Exchange) : Type 0 where
  pub replies : given xs ≡ given ys
  pub planner : last p (on_lines xs) ≡ last p (on_lines ys)
