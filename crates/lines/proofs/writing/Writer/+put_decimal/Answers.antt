-- `put_decimal` meets its contract: the number without its last digit, if it has more, then that digit. Assumes nothing.
use native.Mathlib.Omega.{arith}
use Rattle.lines.proofs.Decimal.{decimal-one, decimal-more}
use Rattle.lines.proofs.Writes.{writes_then, room_first, room_then}
use Rattle.lines.proofs.writing.Writer.+put_decimal.Goals as goal

pub put-requires : goal.put-requires
put-requires t c = rw (decimal-one c.args.n c.if-n-lt10.true) at c.requires

pub returns-then-n-lt10 : goal.returns-then-n-lt10
returns-then-n-lt10 t c = rw (decimal-one c.args.n c.if-n-lt10.true) c.put.ensures

pub put_decimal-requires : goal.put_decimal-requires
put_decimal-requires t c = (omega arith, room_first _ (rw (decimal-more c.args.n (omega (arith, c.if-n-lt10.false))) at c.requires))

pub put-requires-2 : goal.put-requires-2
put-requires-2 t c = room_then c.put_decimal.ensures (rw (decimal-more c.args.n (omega (arith, c.if-n-lt10.false))) at c.requires)

pub returns : goal.returns
returns t c = rw (decimal-more c.args.n (omega (arith, c.if-n-lt10.false))) (writes_then c.put_decimal.ensures c.put-2.ensures)
