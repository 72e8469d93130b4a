-- `item_of` meets its contract. Assumes nothing.
use Prim.Native.Nat.{ℕ}
use mathlib.Core.Path.{◌≡◌, refl}
use mathlib.Core.Bool.{Bool, true, false, ◌&&◌}
use native.Mathlib.Omega.{arith}
use lib.Dec.{eqb}
use mir.Val.{bool_byte}
use Rattle.lists.specs.Argmax.{guard}
use Rattle.marks.specs.Sets.{has_load}
use Rattle.meaning.specs.Forest.{planned, checked}
use Rattle.tables.specs.declared.load.Load.{Load}
use Rattle.cells.specs.Problem.{any_mark, item_of}
use Rattle.cells.proofs.outline.item_of.Goals as goal

true-right : (b : Bool) → b && true ≡ b
true-right true = refl
true-right false = refl

module _ (k : ℕ) (l : Load) where
  -- a load rule serves by its kind and its mark ..
  marked : (b : Bool) → item_of (record { power = 0; worth = 0; mark = bool_byte b; kind = l.kind }) ≡ checked (λ j. guard b 1) k l
  marked true = refl
  marked false = refl

  -- .. or by its kind alone
  unmarked : item_of (record { power = l.power; worth = l.worth; mark = any_mark; kind = l.kind }) ≡ planned k l
  unmarked = λ i. record { power = l.power; worth = l.worth; kind = l.kind; serves = λ t. true-right (eqb t.kind l.kind) i }

pub returns-in-None : goal.returns-in-None
returns-in-None c =
    let p = c.from.ensures in
    let v = c.from-in-None.ensures in
    (rw (p, v, c.from-in-None-2.ensures, c.in-None.is) (unmarked c.args.k c.args.l), omega arith, omega arith)

pub returns-in-Some : goal.returns-in-Some
returns-in-Some c =
    (rw (c.from-in-Some.ensures, c.has.ensures, c.from-in-Some-2.ensures, c.in-Some.is) (marked c.args.k c.args.l (has_load c.in-Some.set c.args.k)), omega arith, omega arith)
