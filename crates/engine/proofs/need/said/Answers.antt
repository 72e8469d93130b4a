-- `said` meets its contract: 9, then 15, then the least budget. Assumes nothing.
use mathlib.Core.Path.{ap}
use borrow.Author.Tests.{lt-ltb, le-ltb}
use Rattle.engine.specs.declared.figures.Figures.{Figures}
use Rattle.engine.specs.Need.{need_by}
use Rattle.engine.proofs.need.said.Goals as goal

pub returns-in_default : goal.returns-in_default
unfolding need_by
returns-in_default c = rw c.in_default.is

pub returns-then-figures-worth : goal.returns-then-figures-worth
unfolding need_by
returns-then-figures-worth c =
    let e = ap (λ (x : Figures). x.worth) c.figures_of-figures.ensures in
    rw (c.in-Some.is, ← e, lt-ltb c.figures_of-figures.result.worth c.args.worth c.if-figures-worth.true)

pub returns : goal.returns
unfolding need_by
returns c =
    let e = ap (λ (x : Figures). x.worth) c.figures_of-figures.ensures in
    rw (c.in-Some.is, ← e, le-ltb c.figures_of-figures.result.worth c.args.worth c.if-figures-worth.false)
