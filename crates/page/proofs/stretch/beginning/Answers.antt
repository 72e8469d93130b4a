-- `beginning` meets its contract. Assumes nothing.
use Prim.Native.Nat.{◌+◌}
use mathlib.Core.Path.{sym, ap, ◌∙◌}
use native.Mathlib.Numerals.{add-one}
use native.Mathlib.Omega.{arith}
use borrow.Author.Tests.{eq-eqb, ne_eqb}
use Rattle.page.specs.declared.stretch.Rows.{Rows}
use Rattle.page.specs.Stretch.{differing, beginning}
use Rattle.page.proofs.Differing.{rows_fit}
use Rattle.page.proofs.stretch.beginning.Goals as goal

pub returns-then-rows-eq0 : goal.returns-then-rows-eq0
unfolding beginning
returns-then-rows-eq0 c =
    let a = c.args in
    rw (eq-eqb (differing a.glass.now a.drawn.now).end 0 (sym (ap (λ (x : Rows). x.end) c.differing-rows.ensures) ∙ c.if-rows-eq0.true))

pub overflow_add-result : goal.overflow_add-result
overflow_add-result c =
    let f = rows_fit _ _ c.differing-rows.ensures in
    omega (arith, f.0, f.1)

pub returns : goal.returns
unfolding beginning
returns c =
    let a = c.args in
    let e = c.differing-rows.ensures in
    rw (ne_eqb (differing a.glass.now a.drawn.now).end 0 (λ z. c.if-rows-eq0.false (ap (λ (x : Rows). x.end) e ∙ z))) (ap (λ (x : Rows). x.first + 1) e ∙ add-one _)
