-- `child_after` meets its contract: no load that was passed has the parent p. Assumes nothing.
use Prim.Native.Nat.{◌<◌}
use mathlib.Core.Path.{refl, sym, ◌∙◌}
use native.Mathlib.Numerals.{add-one}
use native.Mathlib.Omega.{arith}
use borrow.Author.Rules.{rules}
use lib.ListN.{length}
use Rattle.meaning.proofs.Tree.{after-end, after-here, after-skip}
use Rattle.judge.proofs.Left.{none_left, fewer-left}
use Rattle.judge.proofs.walk.child_after.Goals as goal

pub loop-i-init : goal.loop-i-init
loop-i-init c = (search rules, search rules, λ ls h. refl)

pub returns-then-steps-i : goal.returns-then-steps-i
returns-then-steps-i c =
    let a = c.args in
    let i = c.loop-i.i in
    let inv = c.loop-i.invariant in record {
      found = λ ls h.
          let l : i < length ls = omega (arith, h.count) in
          add-one i ∙ sym (inv.2 ls h ∙ after-here ls i a.p l (sym (h.parent i (omega arith)) ∙ c.if-steps-i.true));
      falls = (omega arith, fewer-left (length a.steps.now) a.k i (omega arith) inv.0 (omega arith));
    }

pub loop-i-preserved : goal.loop-i-preserved
loop-i-preserved c =
    let a = c.args in
    let i = c.loop-i.i in
    let inv = c.loop-i.invariant in (
      omega arith,
      omega arith,
      λ ls h.
          let l : i < length ls = omega (arith, h.count) in
          inv.2 ls h ∙ rw add-one (after-skip ls i a.p l (λ q. c.if-steps-i.false (h.parent i (omega arith) ∙ q))),
    )

pub returns : goal.returns
returns c =
    let a = c.args in
    let inv = c.loop-i.invariant in
    record { found = λ ls h. sym (inv.2 ls h ∙ after-end ls _ a.p (omega (arith, h.count))); falls = (omega arith, none_left (length a.steps.now) a.k (omega arith) (omega arith)) }
