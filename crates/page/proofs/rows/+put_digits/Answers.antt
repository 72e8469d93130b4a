-- `put_digits` meets its contract: the number without its last digit, then that digit. Assumes nothing.
use Prim.Native.Nat.{ℕ, ◌<◌}
use mathlib.Core.Path.{◌≡◌}
use native.Mathlib.Omega.{arith}
use Rattle.lines.proofs.Writes.{writes_none, writes_then, room_first, room_then}
use Rattle.page.proofs.Digits.{digits-none, digits_more}
use Rattle.page.proofs.rows.+put_digits.Goals as goal

some : (k : ℕ) → 0 < k → k ≡ 0 → ⊥
some k h z = omega arith

pub put_digits-requires : goal.put_digits-requires
put_digits-requires t c = (omega arith, room_first _ (rw (digits_more c.args.count c.args.n (some _ c.if-count-gt0.true)) at c.requires))

pub put-requires : goal.put-requires
put-requires t c =
    rw c.lowest_digit.ensures (room_then c.put_digits.ensures (rw (digits_more c.args.count c.args.n (some _ c.if-count-gt0.true)) at c.requires))

pub returns-then-count-gt0 : goal.returns-then-count-gt0
returns-then-count-gt0 t c =
    rw (digits_more c.args.count c.args.n (some _ c.if-count-gt0.true), ← c.lowest_digit.ensures) (writes_then c.put_digits.ensures c.put.ensures)

pub returns-else-count-gt0 : goal.returns-else-count-gt0
returns-else-count-gt0 t c = let z : c.args.count ≡ 0 = omega (arith, c.if-count-gt0.false) in rw (z, digits-none c.args.n) (writes_none _)
