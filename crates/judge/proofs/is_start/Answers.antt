-- `is_start` meets its contract. Assumes nothing.
use mathlib.Core.Path.{◌∙◌}
use native.Mathlib.Omega.{arith}
use borrow.Author.Tests.{lt-leb}
use Rattle.tables.specs.Stored.{book_of}
use Rattle.judge.proofs.Root.{start-in, start-out}
use Rattle.judge.proofs.is_start.Goals as goal

pub returns-then-state-from : goal.returns-then-state-from
unfolding book_of
returns-then-state-from c = let a = c.args in c.has.ensures ∙ start-in (book_of a.book) a.q (omega (arith, c.if-state-from.true, c.from.ensures))

pub returns-else-state-from : goal.returns-else-state-from
unfolding book_of
returns-else-state-from c =
    let a = c.args in
    lt-leb a.q c.from.result (omega (arith, c.if-state-from.false))
    ∙ start-out (book_of a.book) a.q (omega (arith, c.if-state-from.false, c.from.ensures))
