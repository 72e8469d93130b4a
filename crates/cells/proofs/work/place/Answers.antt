-- `place` meets its contract. Assumes nothing.
use mathlib.Core.Path.{refl}
use native.Mathlib.Omega.{arith}
use Prim.Native.Nat.{◌-◌}
use Rattle.cells.specs.Work.{place_of}
use Rattle.cells.proofs.Places.{rank-small, place-small}
use Rattle.cells.proofs.work.place.Goals as goal

pub overflow_mul-result : goal.overflow_mul-result
overflow_mul-result c = omega (arith, rank-small c.args.sh c.requires.sane (c.args.sh.loads - c.args.k) (omega arith))

pub overflow_add-result-2 : goal.overflow_add-result-2
overflow_add-result-2 c = omega (arith, rank-small c.args.sh c.requires.sane (c.args.sh.loads - c.args.k) (omega arith))

pub overflow_mul-result-2 : goal.overflow_mul-result-2
overflow_mul-result-2 c =
    omega (arith, place-small c.args.sh c.requires.sane (c.args.sh.loads - c.args.k) c.args.x (omega arith) (omega arith))

pub returns : goal.returns
unfolding place_of
returns c = refl
