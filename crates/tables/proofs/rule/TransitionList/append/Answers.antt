-- `TransitionList::append` meets its contract. Assumes nothing.
use mathlib.Core.Path.{sym, ◌∙◌}
use native.Mathlib.Omega.{arith}
use borrow.Author.Tests.{le-leb, lt-leb}
use lib.ListN.{length, length-take}
use Rattle.lists.specs.Arrays.{rest}
use Rattle.tables.specs.Limits.{max_rules}
use Rattle.tables.specs.Stored.{rules_of}
use Rattle.tables.specs.Operations.{appended}
use Rattle.tables.proofs.rule.TransitionList.append.Goals as goal

pub returns-then-self-ge-MAX_RULES : goal.returns-then-self-ge-MAX_RULES
unfolding appended
returns-then-self-ge-MAX_RULES c =
    let l = c.args.self in
    rw (le-leb max_rules (length (rules_of l)) (omega (arith, c.if-self-ge-MAX_RULES.true, length-take l.count l.items)))

pub returns-then-found_from : goal.returns-then-found_from
unfolding appended rest
returns-then-found_from c =
    let l = c.args.self in
    rw (lt-leb max_rules (length (rules_of l)) (omega (arith, c.if-self-ge-MAX_RULES.false, length-take l.count l.items)), sym c.found_from.ensures ∙ c.if-found_from.true)

pub returns : goal.returns
unfolding appended rest
returns c =
    let l = c.args.self in
    rw (lt-leb max_rules (length (rules_of l)) (omega (arith, c.if-self-ge-MAX_RULES.false, length-take l.count l.items)), sym c.found_from.ensures ∙ c.if-found_from.false)
