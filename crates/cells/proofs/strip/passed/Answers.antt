-- `passed` meets its contract: what is passed over grows by a stride. Assumes nothing.
use Prim.Native.Nat.{◌+◌, ◌-◌}
use native.Mathlib.Omega.{arith}
use Rattle.cells.proofs.Shares.{passed_none, passed_then, passed-stride}
use Rattle.cells.proofs.strip.passed.Goals as goal

pub loop-c-init : goal.loop-c-init
loop-c-init c = passed_none c.requires.0

pub returns-then-held-last : goal.returns-then-held-last
returns-then-held-last c = record { over = c.loop-c.invariant; far = λ l e. absurd (omega arith) }

pub loop-c-preserved : goal.loop-c-preserved
loop-c-preserved c =
    let l = c.loop-c in
    let s = c.args in
    passed_then l.invariant (passed-stride l.c (l.c + (s.stride - 1)) _ (omega arith) (omega arith) (omega arith) (omega arith))

pub returns : goal.returns
returns c = record { over = c.loop-c.invariant; far = λ l e. absurd (omega arith) }
