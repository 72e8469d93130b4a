-- `differing` meets its contract. The invariant: the rows so far were compared. Assumes nothing.
use mathlib.Core.Path.{◌≡◌, refl, sym, ap, ◌∙◌}
use mathlib.Core.Bool.{not}
use native.Mathlib.Omega.{arith}
use borrow.Author.Tests.{eqb-true}
use lib.ListN.{length}
use Rattle.page.specs.declared.stretch.Rows.{Rows}
use Rattle.page.specs.Rows.{row_count, page_bytes}
use Rattle.page.specs.Stretch.{differs, end_of, passing, is_page, differing}
use Rattle.page.proofs.Rowwise.{passing-miss, passing-first, passing-later}
use Rattle.page.proofs.Differing.{pages-bad, pages-good}
use Rattle.page.proofs.stretch.differing.Goals as goal
use Rattle.page.proofs.stretch.differing.Goals.{then-not-same_row, else-not-same_row, then-end-eq0, else-end-eq0}

pub returns-then-glass-drawn : goal.returns-then-glass-drawn
unfolding differing
returns-then-glass-drawn c =
    let a = c.args in
    rw (pages-bad (is_page a.glass.now) (is_page a.drawn.now) c.if-glass-drawn.true)

pub loop-row-init : goal.loop-row-init
unfolding end_of
loop-row-init c = (omega arith, refl)

pub same_row-requires : goal.same_row-requires
same_row-requires c =
    let a = c.args in
    let pages = pages-good (is_page a.glass.now) (is_page a.drawn.now) c.if-glass-drawn.false in
    (eqb-true (length a.glass.now) page_bytes pages.0, eqb-true (length a.drawn.now) page_bytes pages.1, c.loop-row-test.true)

pub loop-row-preserved : goal.loop-row-preserved
loop-row-preserved c =
    let a = c.args in
    let p = differs a.glass.now a.drawn.now in
    let n = c.loop-row.row in
    let i = c.loop-row.invariant.1 in
    let test : not c.same_row.result ≡ p n = ap not c.same_row.ensures in
    let ends : c.loop-row.end ≡ end_of p n = ap (λ (x : Rows). x.end) i in
    let firsts : c.loop-row.first ≡ (passing p n).first = ap (λ (x : Rows). x.first) i in (
      omega (arith, c.loop-row-test.true),
      elim c.if-not-same_row.branch [
        | then-not-same_row w ↦ elim w.if-end-eq0.branch [
          | then-end-eq0 v ↦ rw (w.end-is, w.first-is, v.first-is) (passing-first p n (sym test ∙ ap not w.if-not-same_row.true) (omega (arith, ends, v.if-end-eq0.true)))
          | else-end-eq0 v ↦ rw (w.end-is, w.first-is, v.first-is, firsts) (passing-later p n (sym test ∙ ap not w.if-not-same_row.true) (λ z. omega (arith, z, ends, v.if-end-eq0.false)))
        ]
        | else-not-same_row w ↦ rw (w.first-is, w.end-is) (i ∙ passing-miss p n (sym test ∙ ap not w.if-not-same_row.false))
      ],
    )

pub returns : goal.returns
unfolding differing
returns c =
    let a = c.args in
    let pages = pages-good (is_page a.glass.now) (is_page a.drawn.now) c.if-glass-drawn.false in
    let e : c.loop-row.row ≡ row_count = omega (arith, c.loop-row.invariant.0, c.loop-row-test.false) in
    rw (pages.0, pages.1, ← e) c.loop-row.invariant.1
