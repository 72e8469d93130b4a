-- `Planner::mark` meets its contract. Assumes nothing.
use mathlib.Core.Path.{◌≡◌, sym, ap, ◌∙◌}
use mathlib.Core.Bool.{Bool}
use mathlib.Core.List.{[]}
use Prim.Native.Nat.{ℕ}
use Rattle.tables.specs.declared.rule.Sort.{Sort}
use Rattle.tables.specs.declared.tables.StoredTables.{StoredTables}
use Rattle.tables.specs.Tables.{size_for}
use Rattle.tables.specs.Limits.{between}
use Rattle.tables.specs.Stored.{held_size, tables_of}
use Rattle.tables.specs.Operations.{mark_set}
use Rattle.tables.proofs.Changes.{mark-set}
use Rattle.calls.proofs.State.{is-stored}
use Rattle.planner.specs.Planner.{state_in}
use Rattle.planner.proofs.Commands.{size-held, out_of_range, accepts}
use Rattle.planner.proofs.Planner.mark.Goals as goal

tested : (u : StoredTables) (k : Sort) (n size : ℕ) (b : Bool) → size ≡ held_size u.book k → b ≡ between 1 size n → b ≡ between 1 (size_for (tables_of u).book k) n
tested u k n size b is e = e ∙ ap (λ (m : ℕ). between 1 m n) (is ∙ size-held u k)

pub returns-then-not-between : goal.returns-then-not-between
returns-then-not-between c =
    let a = c.args in
    out_of_range (state_in a.self) _ [] _ (sym (tested a.self.tables a.sort a.number _ _ (c.from.ensures ∙ c.size-size.ensures) c.between.ensures) ∙ c.if-not-between.true)

pub returns : goal.returns
returns c =
    let a = c.args in
    let s = a.self.tables in
    accepts (state_in a.self) _ _ (sym (tested s a.sort a.number _ _ (c.from.ensures ∙ c.size-size.ensures) c.between.ensures) ∙ c.if-not-between.false)
    (c.mark.ensures ∙ ap (λ (x : StoredTables). mark_set x a.sort a.number) (is-stored s c.requires.tables) ∙ mark-set (tables_of s) a.sort a.number)
