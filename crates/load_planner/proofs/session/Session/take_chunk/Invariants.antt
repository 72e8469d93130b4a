-- `Session::take_chunk` meets its contract, and ends: each turn takes a byte of the chunk or more. Assumes nothing.
use Prim.Native.Nat.{◌-◌, ◌≤◌}
use mathlib.Core.Path.{◌≡◌}
use lib.ListN.{length, drop}
use Rattle.calls.specs.Program.{after_chunk}
use Rattle.load_planner.specs.Session.{carried_of}
use Rattle.load_planner.proofs.session.Session.take_chunk.Given as goal

abbrev pub invariant-loop-at : goal.invariant-loop-at
invariant-loop-at l = record { inside : l.at ≤ length l.chunk; rest : after_chunk (carried_of l.self) (drop l.at l.chunk) ≡ after_chunk (carried_of l.initial.self) l.chunk }

abbrev pub decreases-loop-at : goal.decreases-loop-at
decreases-loop-at l = length l.chunk - l.at
