-- Load lines one after another, each in range: the first that is refused is the one after the last place, and its number is 6.
-- It stands for "64 loads .. already" of paper 01, with request Ten of paper 02 over the limit of loads as a parameter. Assumes nothing.
use Rattle.std.specs.Prelude.{ℕ, suc, ◌+◌, ◌≤◌, ◌<◌, ◌≡◌, true, List, [], ◌∷◌, map, length, get_or}
use Rattle.lines.specs.declared.Command.TheVariants as line
use Rattle.lines.specs.declared.Change.TheVariants as to
use Rattle.lines.specs.Grammar.{parse}
use Rattle.lines.specs.Answers.{free_bytes}
use Rattle.tables.specs.Refusals as no
use Rattle.tables.specs.Limits.{load_in}
use Rattle.calls.specs.Rows.{load}
use Rattle.calls.specs.Calls.{Call}
use Rattle.calls.specs.Demand3.{Exchange}

-- a call on a `load` line that is in range for the load of this number
pub record LoadCall (number : ℕ) (c : Call) : Type 0 where
  pub parent : ℕ
  pub power : ℕ
  pub worth : ℕ
  pub kind : ℕ
  pub line : parse c.line ≡ line.Change (to.Load parent power worth kind)
  pub free : c.place + free_bytes ≤ length c.output
  pub fits : load_in number (load parent power worth kind) ≡ true

-- such calls, for the loads from this number on
abbrev pub LoadCalls : (number : ℕ) → List Exchange → Type 0
LoadCalls k [] = Unit {0}
LoadCalls k (x ∷ xs) = LoadCall k x.call × LoadCalls (suc k) xs

-- the number that the call at place j returned
abbrev pub number_at : List Exchange → ℕ → ℕ
number_at xs j = get_or (map (λ (x : Exchange). x.done.reply.number) xs) j 0

-- the first n are accepted, and the one after them is refused with 6
pub record FullAfter (n : ℕ) (xs : List Exchange) : Type 0 where
  pub accepted : (j : ℕ) → j < n → j < length xs → number_at xs j ≡ 0
  pub full : n < length xs → number_at xs n ≡ no.full
