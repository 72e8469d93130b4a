-- What refuses a changeover, test by test as the code makes them, and the steps by value that come of it. Assumes nothing.
use Prim.Native.Nat.{ℕ, ◌≤◌, ◌<◌}
use mathlib.Core.Path.{◌≡◌, refl, ap, ap₂, subst, ◌∙◌}
use mathlib.Core.Bool.{true, false, ◌&&◌}
use mathlib.Core.List.{List}
use borrow.Author.Tests.{eq-eqb, ne_eqb, lt-ltb, le-ltb}
use lib.Dec.{eqb}
use lib.ListN.{length}
use Rattle.std.specs.Prelude.{Result, Ok, Err}
use Rattle.lists.proofs.Bools.{and-false}
use Rattle.marks.specs.declared.LoadSet.{LoadSet}
use Rattle.marks.specs.Sets.{has_load}
use Rattle.lines.specs.Grammar.{loads_of}
use Rattle.tables.specs.Refusals as no
use Rattle.tables.specs.Tables.{Tables}
use Rattle.tables.specs.Stored.{tables_of}
use Rattle.calls.specs.State.{keeps}
use Rattle.calls.specs.Causes.{lowest}
use Rattle.planner.specs.declared.Planner.{Planner}
use Rattle.planner.specs.Planner.{held, state_in, Lawful}
use Rattle.planner.proofs.Commands.{load-count, few}
use Rattle.changeover.specs.declared.order.Order.{Order}
use Rattle.changeover.specs.Sets.{is_set, on_by, carries}
use Rattle.changeover.specs.Steps.{steps}
use Rattle.changeover.specs.Order.{laid_order}
use Rattle.changeover.specs.Changeover.{steps_of, refusal_of, steps_given, order_of}
use Rattle.changeover.proofs.Orders.{laid-count}

module _ (p : Planner) (old new : List ℕ) (n : ℕ) where
  abbrev t : Tables
  t = (state_in p).tables

  abbrev loads : ℕ
  loads = p.tables.loads.count

  pub broken : keeps (held p) ≡ false → ◌≡◌ {A = Result Order ℕ} (Err no.unusable) (order_of (held p) old new n)
  unfolding order_of steps_given refusal_of lowest
  broken a = rw a refl

  module _ (a : keeps (held p) ≡ true) (lawful : Lawful p) where
    count : loads ≡ length t.loads
    count = load-count p lawful

    pub no-loads : loads ≡ 0 → ◌≡◌ {A = Result Order ℕ} (Err no.no_loads) (order_of (held p) old new n)
    unfolding order_of steps_given refusal_of lowest
    no-loads z =
        let b : eqb (length t.loads) 0 ≡ true = rw (← count) (eq-eqb loads 0 z) in
        rw (a, b) refl

    module _ (some : loads ≡ 0 → ⊥) where
      b : eqb (length t.loads) 0 ≡ false
      b = rw (← count) (ne_eqb loads 0 some)

      pub no-sets : is_set loads old && is_set loads new ≡ false → ◌≡◌ {A = Result Order ℕ} (Err no.out_of_range) (order_of (held p) old new n)
      unfolding order_of steps_given refusal_of lowest
      no-sets e = let c = rw count at e in rw (a, b, c) refl

      pub no-old : is_set loads old ≡ false → ◌≡◌ {A = Result Order ℕ} (Err no.out_of_range) (order_of (held p) old new n)
      no-old e = no-sets (rw e refl)

      pub no-new : is_set loads new ≡ false → ◌≡◌ {A = Result Order ℕ} (Err no.out_of_range) (order_of (held p) old new n)
      no-new e = no-sets (rw e (and-false (is_set loads old)))

      module _ (q : is_set loads old ≡ true) (r : is_set loads new ≡ true) (from to : LoadSet) (is : from ≡ loads_of old) (is' : to ≡ loads_of new) where
        c : is_set (length t.loads) old && is_set (length t.loads) new ≡ true
        c = rw (← count) (rw (q, r) refl)

        uncarried : carries t (on_by old) && carries t (on_by new) ≡ false → ◌≡◌ {A = Result Order ℕ} (Err no.not_carried) (order_of (held p) old new n)
        unfolding order_of steps_given refusal_of lowest
        uncarried d = rw (a, b, c, d) refl

        pub old-over : carries (tables_of p.tables) (has_load from) ≡ false → ◌≡◌ {A = Result Order ℕ} (Err no.not_carried) (order_of (held p) old new n)
        old-over e = uncarried (rw (rw is at e) refl)

        pub new-over : carries (tables_of p.tables) (has_load to) ≡ false → ◌≡◌ {A = Result Order ℕ} (Err no.not_carried) (order_of (held p) old new n)
        new-over e = uncarried (rw (rw is' at e) (and-false (carries t (on_by old))))

        module _ (x : carries (tables_of p.tables) (has_load from) ≡ true) (y : carries (tables_of p.tables) (has_load to) ≡ true) (o : Order) (those : o ≡ laid_order (steps (has_load from) (has_load to) loads)) where
          d : carries t (on_by old) && carries t (on_by new) ≡ true
          d = rw (rw is at x, rw is' at y) refl

          given : o ≡ laid_order (steps_of t old new)
          given = those ∙ ap laid_order (ap₂ (λ x y. steps (has_load x) (has_load y) loads) is is' ∙ ap (steps (on_by old) (on_by new)) count)

          counted : o.count ≡ length (steps_of t old new)
          counted = laid-count (steps_of t old new) o given

          pub short-list : n < o.count → ◌≡◌ {A = Result Order ℕ} (Err no.short_list) (order_of (held p) old new n)
          unfolding order_of steps_given refusal_of lowest
          short-list less = let e = lt-ltb n (length (steps_of t old new)) (subst (λ k. n < k) counted less) in rw (a, b, c, d, e) refl

          pub unrefused : o.count ≤ n → ◌≡◌ {A = Result Order ℕ} (Ok o) (order_of (held p) old new n)
          unfolding order_of steps_given refusal_of lowest
          unrefused room = let e = le-ltb n (length (steps_of t old new)) (subst (λ k. k ≤ n) counted room) in rw (a, b, c, d, e, given) refl

-- the ways out of the code
pub ruleset refusals = (broken, no-loads, no-old, no-new, old-over, new-over, short-list, unrefused, few)
