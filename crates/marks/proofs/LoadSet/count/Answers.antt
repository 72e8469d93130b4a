-- `LoadSet::count` meets its contract: the ones of both halves together. Assumes nothing.
use borrow.Author.Rules.{rules}
use Rattle.marks.specs.Sets.{size_of}
use Rattle.marks.proofs.Laws.{ones-size}
use Rattle.marks.proofs.LoadSet.count.Goals as goal

pub returns : goal.returns
unfolding size_of
returns c = let s = c.args.self in rw (ones-size 64 s.low (search rules), ones-size 64 s.high (search rules))
