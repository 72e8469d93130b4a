-- The test of the figures of a run, place by place: how the code goes. proofs/Places shows that it is the one of `outcome_in`.
-- It stands for "A stored figure out of range for the tables is refusal 1" of request Five of paper 02. Assumes nothing.
use Rattle.std.specs.Prelude.{ℕ, Bool}
use Rattle.lists.specs.Tests.{all_below}
use Rattle.runs.specs.declared.run.Run.{Run}
use Rattle.runs.specs.declared.outcome.RunRange.{RunRange}
use Rattle.runs.specs.Runs.{entry_at}
use Rattle.runs.specs.Outcome.{figures_in}

-- the figures of the first n loads are in range
unfoldable pub figures_keep : RunRange → Run → ℕ → Bool
figures_keep m r n = all_below (λ i. figures_in m (entry_at r i)) n
