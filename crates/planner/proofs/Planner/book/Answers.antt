-- `Planner::book` meets its contract. Assumes nothing.
use mathlib.Core.Path.{◌≡◌, ap, ◌∙◌}
use mathlib.Core.Bool.{true, false}
use native.Mathlib.Omega.{arith}
use Rattle.std.proofs.lemmas.Grind.{common_steps}
use mathlib.Core.List.{[]}
use Rattle.tables.specs.declared.tables.StoredTables.{StoredTables}
use Rattle.tables.specs.Limits.{book_size}
use Rattle.tables.specs.Stored.{tables_of}
use Rattle.tables.specs.Operations.{book_begun}
use Rattle.tables.proofs.Changes.{book-begun}
use Rattle.calls.specs.Rows.{changing}
use Rattle.calls.proofs.State.{is-stored}
use Rattle.planner.specs.Planner.{state_in}
use Rattle.planner.proofs.Commands.{out_of_range, accepts}
use Rattle.planner.proofs.Planner.book.Goals as goal

pub returns-then-not-between : goal.returns-then-not-between
unfolding changing
returns-then-not-between c =
    let a = c.args in
    let e : book_size a.states a.stages ≡ false = grind (arith, common_steps) in
    out_of_range (state_in a.self) (book_size a.states a.stages) [] _ e

pub returns : goal.returns
unfolding changing
returns c =
    let a = c.args in
    let s = a.self.tables in
    let e : book_size a.states a.stages ≡ true = grind (arith, common_steps) in
    accepts (state_in a.self) (book_size a.states a.stages) _ e
    (c.new_book.ensures ∙ ap (λ (x : StoredTables). book_begun x a.states a.stages) (is-stored s c.requires.tables) ∙ book-begun (tables_of s) a.states a.stages)
