-- `word_has` meets its contract. Assumes nothing.
use Prim.Native.Nat.{◌≤◌}
use mathlib.Core.Path.{◌∙◌}
use borrow.Author.Rules.{rules}
use Rattle.std.proofs.lemmas.Grind.{common_steps}
use native.Mathlib.Omega.{arith}
use Rattle.marks.proofs.Laws.{has-out, has_in}
use Rattle.marks.proofs.word_has.Goals as goal

pub returns-then-contains : goal.returns-then-contains
returns-then-contains c = let l : 1 ≤ c.args.n = grind (arith, common_steps) in has_in c.args.word c.args.n (λ e. omega arith)

pub returns-else-contains : goal.returns-else-contains
returns-else-contains c =
    let a = c.args in
    c.if-contains.false ∙ has-out 64 a.word a.n (search rules) (λ p q. grind (arith, common_steps))
