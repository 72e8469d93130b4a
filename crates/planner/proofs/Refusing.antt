-- No refusal has the number 0. Assumes nothing.
use Prim.Native.Nat.{◌<◌}
use lib.Dec.{lit<}
use Rattle.tables.specs.declared.refusal.Refusal.{Refusal}
use Rattle.tables.specs.declared.refusal.Refusal.TheVariants.{Unusable, TooLong, Broken, NoLoads, OutOfRange, Full, SameRule, TooFewCells, NoneFits, NotAllowed, HasChildren, NoPlan, NotAPage, KindsInUse, TooPoor, NotCarried, ShortList}
use Rattle.tables.specs.Refusals.{number_of}

pub refusal-positive : (r : Refusal) → 0 < number_of r
refusal-positive Unusable = lit< tt
refusal-positive TooLong = lit< tt
refusal-positive Broken = lit< tt
refusal-positive NoLoads = lit< tt
refusal-positive OutOfRange = lit< tt
refusal-positive Full = lit< tt
refusal-positive SameRule = lit< tt
refusal-positive TooFewCells = lit< tt
refusal-positive NoneFits = lit< tt
refusal-positive NotAllowed = lit< tt
refusal-positive HasChildren = lit< tt
refusal-positive NoPlan = lit< tt
refusal-positive NotAPage = lit< tt
refusal-positive KindsInUse = lit< tt
refusal-positive TooPoor = lit< tt
refusal-positive NotCarried = lit< tt
refusal-positive ShortList = lit< tt
