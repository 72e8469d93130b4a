-- `LoadSet::has` meets its contract. Assumes nothing.
use mathlib.Core.Path.{◌∙◌}
use native.Mathlib.Omega.{arith}
use Rattle.marks.proofs.Sets.{has-low, has-high}
use Rattle.marks.proofs.LoadSet.has.Goals as goal

pub returns-then-load-le-WORD : goal.returns-then-load-le-WORD
returns-then-load-le-WORD c = let a = c.args in c.word_has.ensures ∙ has-low a.self a.load c.if-load-le-WORD.true

pub returns-else-load-le-WORD : goal.returns-else-load-le-WORD
returns-else-load-le-WORD c =
    let a = c.args in
    c.word_has-else-load-le-WORD.ensures ∙ has-high a.self a.load (omega (arith, c.if-load-le-WORD.false))
