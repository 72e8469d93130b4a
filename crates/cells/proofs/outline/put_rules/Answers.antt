-- `put_rules` meets its contract: before each turn the rules below are written. Assumes nothing.
use Prim.Native.Nat.{◌+◌, ◌*◌, ◌<◌}
use mathlib.Core.Path.{◌≡◌, sym, ap, subst, ◌∙◌}
use native.Mathlib.Omega.{arith}
use lib.Seq.{get_or-take, length-take-le}
use Rattle.tables.specs.declared.rule.Transition.{Transition}
use Rattle.tables.specs.Tables.{no_rule}
use Rattle.cells.specs.Outline.{rule_numbers, with_rule, RulesPut}
use Rattle.cells.proofs.Outlining.{rules-none, rules-more}
use Rattle.cells.proofs.outline.put_rules.Goals as goal

pub loop-j-init : goal.loop-j-init
loop-j-init c = rules-none _ _ _

pub loop-j-preserved : goal.loop-j-preserved
loop-j-preserved c =
    let s = c.args in
    let l = c.loop-j in
    let n = length-take-le s.rules.count s.rules.items (omega arith) in
    let h : l.j < s.rules.count = omega (arith, c.loop-j-test.true, n) in
    let w = λ (t : Transition). with_rule l.o (s.at + rule_numbers * l.j) t in
    subst (λ v. RulesPut s.rules s.o.now s.at (l.j + 1) v) (sym (c.put_rule.ensures ∙ ap w (get_or-take s.rules.count s.rules.items l.j no_rule h)))
    (rules-more s.rules l.invariant (omega (arith, l.auto.o)))

pub returns : goal.returns
returns c =
    let s = c.args in
    let l = c.loop-j in
    let n = length-take-le s.rules.count s.rules.items (omega arith) in
    let e : l.j ≡ s.rules.count = omega (arith, n, l.auto.j-end, c.loop-j-test.false) in
    subst (λ j. RulesPut s.rules s.o.now s.at j l.o) e l.invariant
