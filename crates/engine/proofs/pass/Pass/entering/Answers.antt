-- `entering` meets its contract. Assumes nothing.
use Rattle.engine.proofs.Passing.{enter-none, enter-some}
use Rattle.engine.proofs.pass.Pass.entering.Goals as goal

pub returns-then-c-eq0 : goal.returns-then-c-eq0
returns-then-c-eq0 c = enter-none c.args.self c.args.c c.if-c-eq0.true

pub returns : goal.returns
returns c = enter-some c.args.self c.args.c c.if-c-eq0.false
