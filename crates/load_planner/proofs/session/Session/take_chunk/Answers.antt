-- `Session::take_chunk` meets its contract. Assumes nothing.
use native.Mathlib.Omega.{arith}
use Rattle.load_planner.proofs.Turns.{turned-all}
use Rattle.load_planner.proofs.session.Session.take_chunk.Goals as goal

pub returns-after-loop-at : goal.returns-after-loop-at
returns-after-loop-at c o = turned-all _ _ _ c.loop-at.at (omega arith) c.loop-at.invariant.rest
