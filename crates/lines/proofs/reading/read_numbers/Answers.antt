-- `read_numbers` meets its contract. The invariants: what the fields after the word give is what the rest of the line gives from here.
-- Assumes nothing.
use mathlib.Core.Path.{sym, ◌∙◌}
use native.Mathlib.Omega.{arith}
use borrow.Author.Rules.{rules}
use lib.ListN.{get_or, length-set}
use Rattle.lines.proofs.Numbers.{begin, at-end, at-comma, too_many, digit, bad, ends-comma, ends-line, none-comma, none-line, is-digit}
use Rattle.lines.proofs.reading.read_numbers.Goals as goal
use Rattle.lines.proofs.reading.read_numbers.Goals.{else-loop-at-test, then-loop-at-test+then-b-eq-COMMA}

pub fields-init : goal.fields-init
fields-init c = (begin _ (search rules) _ _, search rules)

pub returns-then-s-at : goal.returns-then-s-at
returns-then-s-at c = sym (c.fields.invariant.0 ∙ at-end _ _ _ _ _ c.if-s-at.true)

pub loop-at-init : goal.loop-at-init
loop-at-init c = (c.fields.invariant.0 ∙ at-comma _ _ _ _ _ c.if-s-at.false, search rules, search rules)

-- past the test of the next byte it is a digit
pub overflow_mul-value : goal.overflow_mul-value
overflow_mul-value c = let g = is-digit c.loop-at.digits c.loop-at.value (get_or c.args.s.now c.loop-at.at 0) c.loop-at.invariant.2 (sym c.may_follow.ensures ∙ c.if-not-may_follow.false) in omega arith

pub overflow_sub-b : goal.overflow_sub-b
overflow_sub-b c = let g = is-digit c.loop-at.digits c.loop-at.value (get_or c.args.s.now c.loop-at.at 0) c.loop-at.invariant.2 (sym c.may_follow.ensures ∙ c.if-not-may_follow.false) in omega arith

pub overflow_add-value : goal.overflow_add-value
overflow_add-value c = let g = is-digit c.loop-at.digits c.loop-at.value (get_or c.args.s.now c.loop-at.at 0) c.loop-at.invariant.2 (sym c.may_follow.ensures ∙ c.if-not-may_follow.false) in omega (arith, c.from.ensures)

pub loop-at-preserved : goal.loop-at-preserved
loop-at-preserved c =
    let m = sym c.may_follow.ensures ∙ c.if-not-may_follow.false in
    let g = is-digit c.loop-at.digits c.loop-at.value (get_or c.args.s.now c.loop-at.at 0) c.loop-at.invariant.2 m in
    let next = digit _ _ _ _ _ _ _ c.loop-at-test.true c.if-b-eq-COMMA.false m in
    (rw c.from.ensures (c.loop-at.invariant.0 ∙ next), omega (arith, g.few), rw c.from.ensures g.small)

pub fields-preserved : goal.fields-preserved
fields-preserved c = (
  c.loop-at.invariant.0 ∙ elim c.loop-at-test.branch [
    | else-loop-at-test w ↦ ends-line _ _ _ _ _ _ _ w.loop-at-test.false c.if-digits-eq0.false c.if-most-count.false
    | then-loop-at-test+then-b-eq-COMMA w ↦
        ends-comma _ _ _ _ _ _ _ w.loop-at-test.true w.if-b-eq-COMMA.true c.if-digits-eq0.false c.if-most-count.false
  ],
  simp length-set c.fields.invariant.1,
)

-- the form is broken by a number too many, by a bad byte, or by a number with no digit
pub returns-then-most-count : goal.returns-then-most-count
returns-then-most-count c = sym (c.fields.invariant.0 ∙ too_many _ _ _ _ _ c.if-s-at.false c.if-most-count.true)

pub returns-then-not-may_follow : goal.returns-then-not-may_follow
returns-then-not-may_follow c =
    sym (c.loop-at.invariant.0 ∙ bad _ _ _ _ _ _ _ c.loop-at-test.true c.if-b-eq-COMMA.false (sym c.may_follow.ensures ∙ c.if-not-may_follow.true))

pub returns-then-digits-eq0 : goal.returns-then-digits-eq0
returns-then-digits-eq0 c =
    sym (c.loop-at.invariant.0 ∙ elim c.loop-at-test.branch [
      | else-loop-at-test e ↦ none-line _ _ _ _ _ _ _ e.loop-at-test.false c.if-digits-eq0.true
      | then-loop-at-test+then-b-eq-COMMA e ↦ none-comma _ _ _ _ _ _ _ e.loop-at-test.true e.if-b-eq-COMMA.true c.if-digits-eq0.true
    ])
