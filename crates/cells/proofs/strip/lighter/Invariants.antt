-- `lighter` is safe and ends. Assumes nothing.
use Prim.Native.Nat.{◌-◌, ◌<◌}
use lib.ListN.{length}
use Rattle.std.specs.Prelude.{MatchOption}
use Rattle.cells.proofs.Shares.{step_or}
use Rattle.cells.proofs.strip.lighter.Given as goal

abbrev pub invariant-loop-a : goal.invariant-loop-a
invariant-loop-a l = MatchOption l.a (Unit {0}) (λ i. i < length l.x) × MatchOption l.b (Unit {0}) (λ j. j < length l.y)

abbrev pub decreases-loop-a : goal.decreases-loop-a
decreases-loop-a l = length l.y - step_or l.b (length l.y)
