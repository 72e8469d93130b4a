-- Tables that keep the limits have each of them as a fact: the tests are taken apart here. Assumes nothing.
use Prim.Native.Nat.{ℕ, zero, suc, ◌≤◌, ◌<◌}
use mathlib.Core.Path.{◌≡◌, refl}
use mathlib.Core.Bool.{Bool, true, false, ◌&&◌, ◌||◌}
use native.Mathlib.Omega.{arith}
use borrow.Author.Tests.{leb-true, eqb-true}
use lib.Dec.{eqb, leb}
use Rattle.lists.proofs.Bools.{and_left, and_right}
use Rattle.lists.proofs.Tests.{every-at, from_at}
use Rattle.lists.proofs.Places.{Limited, limited-parts}
use Rattle.tables.specs.declared.rule.RuleRange.{RuleRange}
use Rattle.tables.specs.declared.load.Figure.TheVariants as figure
use Rattle.tables.specs.Tables.{Sort, Transition, Load, Tables, no_rule, no_load, rules_for}
use Rattle.tables.specs.Limits.{between, max_states, book_size, size_in, rule_in, range_for, same_rule, max_rules, parent_in, max_power, max_worth, max_kind, kind_in, max_budget, figure_in, load_in, Limits}
use Rattle.tables.specs.Lawful.{RuleFits, LoadFits, Lawful}
use Rattle.tables.proofs.Parts.{Parts, limits-parts}

-- ---- a number, the size of a book, a rule, a load
pub inside : (a b x : ℕ) → between a b x ≡ true → (a ≤ x) × (x ≤ b)
inside a b x h = (leb-true a x (and_left (leb a x) (leb x b) h), leb-true x b (and_right (leb a x) (leb x b) h))

pub size-inside : (s g : ℕ) → book_size s g ≡ true → ((1 ≤ s) × (s ≤ max_states)) × ((1 ≤ g) × (g ≤ max_states))
size-inside s g h = (
  inside 1 max_states s (and_left (between 1 max_states s) (between 1 max_states g) h),
  inside 1 max_states g (and_right (between 1 max_states s) (between 1 max_states g) h),
)

sizes : (s g : ℕ) → size_in s g ≡ true → (s ≤ max_states) × (g ≤ max_states) × (0 < s → 0 < g)
sizes s g h = go (eqb s 0 && eqb g 0) refl h
  where
    go : (t : Bool) → eqb s 0 && eqb g 0 ≡ t → t || book_size s g ≡ true → (s ≤ max_states) × (g ≤ max_states) × (0 < s → 0 < g)
    go true e h =
        let a = eqb-true s 0 (and_left (eqb s 0) (eqb g 0) e) in
        let b = eqb-true g 0 (and_right (eqb s 0) (eqb g 0) e) in
        (omega arith, omega arith, λ l. absurd (omega arith))
    go false e h = let z = size-inside s g h in (z.0.1, z.1.1, λ l. z.1.0)

pub rule-inside : (m : RuleRange) (r : Transition) → rule_in m r ≡ true → RuleFits m r
unfolding rule_in
rule-inside m r h =
    let a = between 1 m.from r.from in
    let b = between m.low m.high r.label in
    let d = between 1 m.to r.to in
    let e = leb r.kind m.kind in
    let abd = and_left (a && b && d) e h in
    let ab = and_left (a && b) d abd in
    record {
      begins = inside 1 m.from r.from (and_left a b ab);
      gives = inside m.low m.high r.label (and_right a b ab);
      leads = inside 1 m.to r.to (and_right (a && b) d abd);
      kind = leb-true r.kind m.kind (and_right (a && b && d) e h);
    }

parent-inside : (k p : ℕ) → parent_in k p ≡ true → (p < k) × (1 < k → 0 < p)
parent-inside zero p h = absurd (let z : ◌≡◌ {A = ℕ} 0 1 = cc in omega arith)
parent-inside (suc zero) p h = (omega (arith, eqb-true p 0 h), λ l. absurd (omega arith))
parent-inside (suc (suc k)) p h = let i = inside 1 (suc k) p h in (omega arith, λ l. i.0)

pub load_inside : (k : ℕ) (l : Load) → load_in k l ≡ true → LoadFits k l
unfolding load_in
load_inside k l h =
    let parent = parent_in k l.parent in
    let power = figure_in figure.Power l.power in
    let worth = figure_in figure.Worth l.worth in
    let kind = kind_in l.kind in
    let three = and_left (parent && power && worth) kind h in
    let both = and_left (parent && power) worth three in
    let p = parent-inside k l.parent (and_left parent power both) in
    record {
      parent = p.0;
      later = p.1;
      power = leb-true l.power max_power (and_right parent power both);
      worth = leb-true l.worth max_worth (and_right (parent && power) worth three);
      kind = leb-true l.kind max_kind (and_right (parent && power && worth) kind h);
    }

-- ---- the tables
pub lawful : (t : Tables) → Limits t → Lawful t
lawful t h = record {
  states = size.0;
  stages = size.1;
  staged = size.2;
  rules = λ k. (listed k).few;
  rule = λ k j l. rule-inside _ _ (every-at (rule_in (range_for t.book k)) no_rule (rules_for t.book k) j (listed k).inside l);
  loads = p.few;
  load = λ j l. load_inside (suc j) _ (from_at no_load load_in 1 t.loads p.loads j l (suc j) (omega arith));
  budget = leb-true t.budget max_budget p.budget;
  places = p.places;
}
  where
    p : Parts t
    p = limits-parts t h

    size : (t.book.states ≤ max_states) × (t.book.stages ≤ max_states) × (0 < t.book.states → 0 < t.book.stages)
    size = sizes t.book.states t.book.stages p.book.size

    listed : (k : Sort) → Limited (rule_in (range_for t.book k)) same_rule max_rules (rules_for t.book k)
    listed k = limited-parts (rule_in (range_for t.book k)) same_rule max_rules (rules_for t.book k) (p.book.rules k)
