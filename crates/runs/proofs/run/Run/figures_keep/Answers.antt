-- `Run::figures_keep` meets its contract. Assumes nothing.
use mathlib.Core.Path.{◌∙◌, sym}
use native.Mathlib.Omega.{arith}
use Rattle.std.proofs.Common.{rules, tests, ℕ, Bool}
use Rattle.std.proofs.lemmas.Iterator.{YieldsList-from_range}
use Rattle.std.proofs.lemmas.Iterator.Search.{all_from_yields_List}
use Rattle.lists.proofs.Iterating.{below-list_all}
use borrow.Author.Tests.{lt-leb}
use Rattle.tables.specs.Limits.{max_loads}
use Rattle.runs.specs.Runs.{entry_at}
use Rattle.runs.specs.Outcome.{figures_in}
use Rattle.runs.specs.Places.{figures_keep}
use Rattle.runs.proofs.Places.{past-places}
use Rattle.runs.proofs.run.Run.figures_keep.Goals as goal

pub returns-then-n-le-MAX_LOADS : goal.returns-then-n-le-MAX_LOADS
unfolding figures_keep
returns-then-n-le-MAX_LOADS c =
    let a = c.args in
    let kept : ℕ → Bool = λ i. figures_in a.range (entry_at a.self.now i) in
    all_from_yields_List kept _ _ _ c.all.ensures.ran (YieldsList-from_range 0 a.n a.n (cc) (omega arith)) (λ x b q k. search (rules, tests)) ∙ below-list_all kept a.n

pub returns-else-n-le-MAX_LOADS : goal.returns-else-n-le-MAX_LOADS
returns-else-n-le-MAX_LOADS c =
    let a = c.args in
    lt-leb a.n max_loads c.if-n-le-MAX_LOADS.false ∙ sym (past-places a.range a.self.now a.n (search rules) c.if-n-le-MAX_LOADS.false)
