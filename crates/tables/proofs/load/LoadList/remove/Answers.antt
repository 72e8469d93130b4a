-- `LoadList::remove` meets its contract. The loop's invariant: the places below i hold what they will, the others what they did. Assumes nothing.
use Prim.Native.Nat.{◌-◌, ◌≤◌}
use mathlib.Core.Path.{◌≡◌, sym, ap, ◌∙◌}
use native.Mathlib.Omega.{arith}
use borrow.Author.Rules.{rules}
use Rattle.std.proofs.lemmas.Grind.{common_steps}
use Rattle.lists.proofs.Arrays.{of_map}
use Rattle.tables.specs.Limits.{max_loads}
use Rattle.tables.specs.Changes.{reparented}
use Rattle.tables.proofs.Changes.{within_not}
use Rattle.tables.proofs.Removed.{none_came, next-came, all-came, removed-in, removed-out, removed-past}
use Rattle.tables.proofs.load.LoadList.remove.Goals as goal

pub returns-then-not-contains : goal.returns-then-not-contains
returns-then-not-contains c =
    removed-out max_loads _ _ (search (rules, of_map)) (within_not max_loads c.args.number (λ p q. grind (arith, common_steps)))

pub returns-then-self-number : goal.returns-then-self-number
returns-then-self-number c = removed-past max_loads _ _ (search (rules, of_map)) c.if-self-number.true

pub loop-i-init : goal.loop-i-init
loop-i-init c =
    let l : 1 ≤ c.args.number = grind (arith, common_steps) in
    let m : c.args.number ≤ max_loads = grind (arith, common_steps) in
    (search rules, omega arith, none_came max_loads c.args.self c.args.number (search (rules, of_map)) l m)

pub loop-i-preserved : goal.loop-i-preserved
loop-i-preserved c =
    let l : 1 ≤ c.args.number = grind (arith, common_steps) in
    let m : c.args.number ≤ max_loads = grind (arith, common_steps) in (
      omega arith,
      omega arith,
      next-came max_loads c.args.self c.args.number (search (rules, of_map)) l m c.loop-i.i c.loop-i.invariant.0 (search rules) c.loop-i.invariant.2
          (c.reparented.ensures ∙ ap (reparented _) c.load-later.ensures),
    )

pub returns : goal.returns
returns c =
    let a = c.args in
    let end : c.loop-i.i ≡ max_loads = omega arith in
    let items = rw end at c.loop-i.invariant.2 in
    let l : 1 ≤ a.number = grind (arith, common_steps) in
    let m : a.number ≤ max_loads = grind (arith, common_steps) in
    let all = all-came max_loads a.self a.number (search (rules, of_map)) l m in
    (λ i. record { items = (items ∙ sym all) i; count = a.self.count - 1 })
    ∙ removed-in max_loads a.self a.number (search (rules, of_map)) (λ e. omega arith) m c.if-self-number.false
