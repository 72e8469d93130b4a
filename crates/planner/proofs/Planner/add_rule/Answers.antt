-- `Planner::add_rule` meets its contract. Assumes nothing.
use mathlib.Core.Path.{◌≡◌, sym, ap, ◌∙◌}
use borrow.Author.Rules.{rules}
use Rattle.std.specs.Prelude.{Err}
use Rattle.tables.specs.declared.rule.RuleRange.{RuleRange}
use Rattle.tables.specs.declared.rule.Sort.{Sort}
use Rattle.tables.specs.declared.rule.Transition.{Transition}
use Rattle.tables.specs.Limits.{range_for, rule_range}
use Rattle.tables.specs.Stored.{book_of, tables_of}
use Rattle.calls.specs.Rows.{rule}
use Rattle.planner.specs.declared.Planner.{Planner}
use Rattle.planner.specs.Changes.{named_rule}
use Rattle.planner.proofs.Commands.{rule-refused, rule-stored}
use Rattle.planner.proofs.Planner.add_rule.Goals as goal

named : (p : Planner) (k : Sort) (m : RuleRange) (r : Transition) → m ≡ rule_range p.tables.book.states p.tables.book.stages k
    → named_rule (range_for (tables_of p.tables).book k) r ≡ named_rule m r
unfolding tables_of book_of
named p k m r of = ap (λ (m : RuleRange). named_rule m r) (sym of)

pub returns-in_err-rule : goal.returns-in_err-rule
returns-in_err-rule c =
    let a = c.args in
    let r = rule a.from a.label a.to a.kind in
    let given : c.from_residual.result ≡ Err c.in_err-rule.field-0.0 = search rules in
    rw given (rule-refused a.self c.requires a.sort r (named a.self a.sort _ r c.of-range.ensures ∙ sym c.named_rule.ensures ∙ c.in_err-rule.was))

pub returns : goal.returns
returns c =
    let a = c.args in
    let r = rule a.from a.label a.to a.kind in
    rule-stored a.self c.requires a.sort r (named a.self a.sort _ r c.of-range.ensures ∙ sym c.named_rule.ensures ∙ c.in_ok-rule.was) c.add_rule.ensures
