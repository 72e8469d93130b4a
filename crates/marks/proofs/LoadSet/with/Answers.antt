-- `LoadSet::with` meets its contract. Assumes nothing.
use native.Mathlib.Omega.{arith}
use Rattle.marks.proofs.Sets.{joined-low, joined-high}
use Rattle.marks.proofs.LoadSet.with.Goals as goal

pub returns-then-load-le-WORD : goal.returns-then-load-le-WORD
returns-then-load-le-WORD c =
    let a = c.args in
    rw c.word_with.ensures.value (joined-low a.self a.load c.if-load-le-WORD.true)

pub returns-else-load-le-WORD : goal.returns-else-load-le-WORD
returns-else-load-le-WORD c =
    let a = c.args in
    rw c.word_with-else-load-le-WORD.ensures.value (joined-high a.self a.load (omega (arith, c.if-load-le-WORD.false)))
