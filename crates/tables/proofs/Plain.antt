-- Tables in which no kind but 0 is in use. Assumes nothing.
use Prim.Native.Nat.{ℕ}
use mathlib.Core.Path.{◌≡◌, refl}
use mathlib.Core.Bool.{false}
use mathlib.Core.List.{List}
use native.Mathlib.Omega.{arith}
use borrow.Author.Tests.{ltb-false}
use lib.ListN.{get_or}
use Rattle.lists.specs.Tests.{some}
use Rattle.lists.proofs.Bools.{or_left, or_right}
use Rattle.lists.proofs.Tests.{none-at}
use Rattle.tables.specs.Tables.{Transition, Load, Tables, no_rule, no_load}
use Rattle.tables.specs.Kinds.{rule_kinded, load_kinded, has_kinds}

pub no-kinds : (t : Tables) → has_kinds t ≡ false → (some rule_kinded t.book.load_rules ≡ false) × (some load_kinded t.loads ≡ false)
unfolding has_kinds
no-kinds t h =
    let a = some rule_kinded t.book.load_rules in
    let b = some load_kinded t.loads in
    (or_left a b h, or_right a b h)

pub rule-plain : (rs : List Transition) → some rule_kinded rs ≡ false → (j : ℕ) → (get_or rs j no_rule).kind ≡ 0
unfolding rule_kinded
rule-plain rs h j = omega (arith, ltb-false 0 (get_or rs j no_rule).kind (none-at rule_kinded no_rule refl rs h j))

pub load-plain : (l : Load) → load_kinded l ≡ false → l.kind ≡ 0
unfolding load_kinded
load-plain l h = omega (arith, ltb-false 0 l.kind h)

pub loads-plain : (ls : List Load) → some load_kinded ls ≡ false → (j : ℕ) → (get_or ls j no_load).kind ≡ 0
unfolding load_kinded
loads-plain ls h j = load-plain (get_or ls j no_load) (none-at load_kinded no_load refl ls h j)
