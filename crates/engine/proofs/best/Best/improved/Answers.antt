-- `Best::improved` meets its contract. Assumes nothing.
use borrow.Author.Tests.{lt-ltb, le-ltb}
use Rattle.engine.proofs.best.Best.improved.Goals as goal

pub returns-then-self-value : goal.returns-then-self-value
returns-then-self-value c = rw (lt-ltb _ _ c.if-self-value.true)

pub returns : goal.returns
returns c = rw (le-ltb _ _ c.if-self-value.false)
