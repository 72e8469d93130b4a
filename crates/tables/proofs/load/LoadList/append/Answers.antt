-- `LoadList::append` meets its contract. Assumes nothing.
use native.Mathlib.Omega.{arith}
use borrow.Author.Tests.{le-leb, lt-leb}
use lib.ListN.{length, length-take}
use Rattle.tables.specs.Stored.{loads_of, places_of}
use Rattle.tables.specs.Operations.{load_appended}
use Rattle.tables.proofs.load.LoadList.append.Goals as goal

pub returns-then-self-ge-MAX_LOADS : goal.returns-then-self-ge-MAX_LOADS
unfolding load_appended
returns-then-self-ge-MAX_LOADS c =
    let l = c.args.self in
    rw (le-leb (places_of l) (length (loads_of l)) (omega (arith, c.if-self-ge-MAX_LOADS.true, length-take l.count l.items)))

pub returns : goal.returns
unfolding load_appended
returns c =
    let l = c.args.self in
    rw (lt-leb (places_of l) (length (loads_of l)) (omega (arith, c.if-self-ge-MAX_LOADS.false, length-take l.count l.items)))
