-- `word_up_to` meets its contract: the number shifted past n is 0 exactly if no number stands past n. Assumes nothing.
use mathlib.Core.Path.{◌∙◌}
use borrow.Author.Rules.{rules}
use borrow.Author.Tests.{le-leb}
use Rattle.marks.proofs.Laws.{up-to-shifted, up-to-all}
use Rattle.marks.proofs.word_up_to.Goals as goal

pub returns-then-n-ge-WORD : goal.returns-then-n-ge-WORD
returns-then-n-ge-WORD c = le-leb 64 c.args.n c.if-n-ge-WORD.true ∙ up-to-all 64 c.args.n c.args.word (search rules) c.if-n-ge-WORD.true

pub returns-else-n-ge-WORD : goal.returns-else-n-ge-WORD
returns-else-n-ge-WORD c = up-to-shifted c.args.n c.args.word
