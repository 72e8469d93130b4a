-- The marked cases follow from the definitions: one test, computed over the table; and each comes, through the claims, to an optimum of
-- these figures, or to none that fits. Assumes nothing.
use Prim.Native.Nat.{ℕ}
use mathlib.Core.Path.{◌≡◌, refl}
use mathlib.Core.Bool.{Bool, true, ◌&&◌, not}
use mathlib.Core.List.{List, [], ◌∷◌}
use native.Mathlib.Omega.{arith}
use borrow.Author.Tests.{not-true, eqb-true, eqb-false}
use lib.Dec.{eqb}
use Rattle.lists.specs.Tests.{every, every_from, distinct, some}
use Rattle.lists.specs.Places.{limited}
use Rattle.lists.specs.Argmax.{argmax}
use Rattle.lists.proofs.Bools.{and_left, and_right}
use Rattle.marks.specs.Bits.{has_mark}
use Rattle.tables.specs.Tables.{Tables}
use Rattle.tables.specs.Limits.{rule_in, same_rule, sort_in, book_in, load_in, loads_in, limits, Limits}
use Rattle.meaning.specs.Forest.{row, tree, sum}
use Rattle.meaning.specs.Sets.{power, worth, number_on, Optimum}
use Rattle.meaning.specs.Cell.{cell, ◌⊕◌}
use Rattle.meaning.specs.Best.{best, best_tree, best_plan}
use Rattle.meaning.specs.Choice.{choose, choose_tree, plan, find, in_order, plan_entries}
use Rattle.meaning.specs.Cases.{Expected, figures, no_load_on, refusal9, Case, cases, tables_for, shown, meets, right, Comes, AllCome}
use Rattle.meaning.proofs.Claims.{claims}

pub cases-right : every right cases ≡ true
unfolding every every_from some limited distinct has_mark argmax rule_in same_rule sort_in book_in load_in loads_in limits row tree sum cell ◌⊕◌ best best_tree best_plan choose choose_tree plan find in_order plan_entries
cases-right = refl

-- tables within the limits that have a plan: the set that it shows is an optimum
shown-best : (t : Tables) → Limits t → not (eqb (best_plan t) 0) ≡ true → Optimum t (shown t)
shown-best t h e = ((claims t h).planned (omega (arith, eqb-false (best_plan t) 0 (not-true (eqb (best_plan t) 0) e)))).optimum

-- a plan with two figures as expected
both-met : (t : Tables) → Limits t → (x v y w : ℕ) → (not (eqb (best_plan t) 0) && eqb x v && eqb y w) ≡ true
    → Optimum t (shown t) × (x ≡ v) × (y ≡ w)
both-met t h x v y w m =
    let some : Bool = not (eqb (best_plan t) 0) in
    let two = and_left (some && eqb x v) (eqb y w) m in
    (shown-best t h (and_left some (eqb x v) two), eqb-true x v (and_right some (eqb x v) two), eqb-true y w (and_right (some && eqb x v) (eqb y w) m))

comes : (t : Tables) → Limits t → (e : Expected) → meets t e ≡ true → Comes t e
comes t h (figures v w) m = let b = both-met t h (worth t (shown t)) v (power t (shown t)) w m in (shown t, b.0, b.1, b.2)
comes t h no_load_on m = let b = both-met t h (worth t (shown t)) 0 (number_on t (shown t)) 0 m in (shown t, b.0, b.1, b.2)
comes t h refusal9 m = (claims t h).refused.0 (eqb-true (best_plan t) 0 m)

all_come : (xs : List Case) → every right xs ≡ true → AllCome xs
unfolding every
all_come [] h = tt
all_come (x ∷ xs) h =
    let r = and_left (right x) (every right xs) h in
    let t = tables_for x in
    (comes t (and_left (limits t) (meets t x.expected) r) x.expected (and_right (limits t) (meets t x.expected) r), all_come xs (and_right (right x) (every right xs) h))

pub cases-come : AllCome cases
cases-come = all_come cases cases-right
