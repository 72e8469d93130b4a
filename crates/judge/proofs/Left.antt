-- The number of loads not yet reached falls from a load to a later one, and to none. Assumes nothing.
use Prim.Native.Nat.{ℕ, zero, suc, ◌+◌, ◌≤◌, ◌<◌}
use native.Mathlib.Numerals.{add-one}
use native.Mathlib.Omega.{arith}
use Rattle.judge.specs.Walk.{left}

pub none_left : (n k : ℕ) → 0 < k → k ≤ n → 0 < left n k
none_left n zero h l = absurd (omega arith)
none_left n (suc j) h l = omega arith

pub fewer-left : (n k i : ℕ) → 0 < k → k ≤ i → i < n → left n (i + 1) < left n k
fewer-left n zero i h l b = absurd (omega arith)
fewer-left n (suc j) i h l b = rw add-one (omega arith)
