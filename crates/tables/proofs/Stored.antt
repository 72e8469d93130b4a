-- Tables that keep the limits are the ones that lie in the planner that holds them; the test of tables that are handed in is true exactly
-- if they are `stored t` for tables t that keep the limits. Assumes nothing.
use Prim.Native.Nat.{ℕ, ◌≤◌}
use mathlib.Core.Path.{◌≡◌, refl, sym, ap, ◌∙◌}
use mathlib.Core.Bool.{true, ◌&&◌}
use mathlib.Core.List.{List}
use mathlib.Core.Logic.{◌↔◌}
use borrow.Author.Tests.{eqb-true}
use lib.Dec.{eqb}
use lib.ListN.{length}
use Rattle.lists.specs.Arrays.{laid}
use Rattle.lists.specs.Places.{rest_free}
use Rattle.lists.proofs.Bools.{and_left, and_right}
use Rattle.lists.proofs.Arrays.{length-laid, take-laid}
use Rattle.lists.proofs.Places.{laid-free, free-laid, free-few, taken-length}
use Rattle.tables.specs.declared.rule.TransitionList.{TransitionList}
use Rattle.tables.specs.declared.load.LoadList.{LoadList}
use Rattle.tables.specs.declared.tables.StoredTables.{StoredTables}
use Rattle.tables.specs.declared.rule.Sort.TheVariants as sort
use Rattle.tables.specs.Tables.{Sort, Transition, Load, Tables, no_rule, no_load}
use Rattle.tables.specs.Limits.{max_rules, Limits}
use Rattle.tables.specs.Stored.{held_rules, stored_rules, stored_loads, stored_book, stored, rules_of, loads_of, places_of, book_of, tables_of, zero_rule, zero_load, rules_free, loads_free, keeps_limits, Lengths, Holds}
use Rattle.tables.proofs.Lawful.{lawful}
use Rattle.tables.proofs.Kept.{tested}

-- the four numbers of a place that holds 0
zeros : (a b d k : ℕ) → eqb a 0 && eqb b 0 && eqb d 0 && eqb k 0 ≡ true → (a ≡ 0) × (b ≡ 0) × (d ≡ 0) × (k ≡ 0)
zeros a b d k h =
    let h3 = and_left (eqb a 0 && eqb b 0 && eqb d 0) (eqb k 0) h in
    let h2 = and_left (eqb a 0 && eqb b 0) (eqb d 0) h3 in (
      eqb-true a 0 (and_left (eqb a 0) (eqb b 0) h2),
      eqb-true b 0 (and_right (eqb a 0) (eqb b 0) h2),
      eqb-true d 0 (and_right (eqb a 0 && eqb b 0) (eqb d 0) h3),
      eqb-true k 0 (and_right (eqb a 0 && eqb b 0 && eqb d 0) (eqb k 0) h),
    )

rule-zero : (r : Transition) → zero_rule r ≡ true → r ≡ no_rule
unfolding zero_rule
rule-zero r h = let z = zeros r.from r.label r.to r.kind h in λ i. record { from = z.0 i; label = z.1 i; to = z.2 i; kind = z.3 i }

load-zero : (l : Load) → zero_load l ≡ true → l ≡ no_load
unfolding zero_load
load-zero l h = let z = zeros l.parent l.power l.worth l.kind h in λ i. record { parent = z.0 i; kind = z.3 i; power = z.1 i; worth = z.2 i }

-- ---- a list laid out passes the test of its unused places, and what passes it is a list laid out
rules-free : (rs : List Transition) → length rs ≤ max_rules → rest_free zero_rule max_rules (length rs) (laid no_rule max_rules rs) ≡ true
unfolding zero_rule
rules-free rs h = laid-free no_rule zero_rule refl rule-zero max_rules rs h

loads-free : (n : ℕ) (ls : List Load) → length ls ≤ n → rest_free zero_load n (length ls) (laid no_load n ls) ≡ true
unfolding zero_load
loads-free n ls h = laid-free no_load zero_load refl load-zero n ls h

rules-laid : (l : TransitionList) → length l.items ≡ max_rules → rules_free l ≡ true → l ≡ stored_rules (rules_of l)
unfolding zero_rule
rules-laid l e h =
    let count = taken-length no_rule zero_rule max_rules l.count l.items e (free-few no_rule zero_rule max_rules l.count l.items e h) in
    λ i. record { items = free-laid no_rule zero_rule refl rule-zero max_rules l.count l.items e h i; count = sym count i }

loads-laid : (l : LoadList) → loads_free l ≡ true → l ≡ stored_loads (places_of l) (loads_of l)
unfolding zero_load
loads-laid l h =
    let n = places_of l in
    let count = taken-length no_load zero_load n l.count l.items refl (free-few no_load zero_load n l.count l.items refl h) in
    λ i. record { items = free-laid no_load zero_load refl load-zero n l.count l.items refl h i; count = sym count i }

-- ---- tables that keep the limits
module _ (t : Tables) (h : Limits t) where
  pub tables-stored : tables_of (stored t) ≡ t
  unfolding tables_of book_of stored stored_book
  tables-stored = λ i. record {
    book = record {
      states = t.book.states;
      stages = t.book.stages;
      starts = t.book.starts;
      ends = t.book.ends;
      load_rules = take-laid no_rule max_rules t.book.load_rules ((lawful t h).rules sort.Load) i;
      row_rules = take-laid no_rule max_rules t.book.row_rules ((lawful t h).rules sort.Row) i;
    };
    loads = take-laid no_load t.places t.loads (lawful t h).loads i;
    budget = t.budget;
    places = length-laid no_load t.places t.loads i;
  }

  pub stored-keeps : keeps_limits (stored t) ≡ true
  unfolding keeps_limits stored stored_book
  stored-keeps =
      rw (
        rules-free t.book.load_rules ((lawful t h).rules sort.Load),
        rules-free t.book.row_rules ((lawful t h).rules sort.Row),
        length-laid no_load t.places t.loads,
        loads-free t.places t.loads (lawful t h).loads,
        tables-stored,
      )
      h

-- ---- tables that are handed in
module _ (s : StoredTables) (len : Lengths s) where
  pub keeps-stored : keeps_limits s ≡ true → (s ≡ stored (tables_of s)) × Limits (tables_of s)
  unfolding stored stored_book tables_of book_of
  keeps-stored h =
      let p = tested s h in
      let load-rules = rules-laid s.book.load_rules (len.rules sort.Load) (p.rules sort.Load) in
      let row-rules = rules-laid s.book.row_rules (len.rules sort.Row) (p.rules sort.Row) in
      let loads = loads-laid s.loads p.loads in (
        λ i. record {
          book = record {
            states = s.book.states;
            stages = s.book.stages;
            starts = s.book.starts;
            ends = s.book.ends;
            load_rules = load-rules i;
            row_rules = row-rules i;
          };
          loads = loads i;
          budget = s.budget;
        },
        p.within,
      )

  -- the test is true exactly if they are `stored t` for tables t that keep the limits
  pub keeps-exactly : (n : ℕ) → places_of s.loads ≡ n → (keeps_limits s ≡ true) ↔ Holds n s
  unfolding tables_of
  keeps-exactly n full = (
    λ h. let p = keeps-stored h in (tables_of s, p.1, p.0, full),
    λ (t, h, e, m). ap keeps_limits e ∙ stored-keeps t h,
  )

-- tables that are held have no more rules and loads than places
module _ (n : ℕ) (s : StoredTables) (h : Holds n s) where
  pub held-rules : (k : Sort) → (held_rules s.book k).count ≤ max_rules
  unfolding stored stored_book
  held-rules sort.Load = rw h.2 ((lawful h.0 h.1).rules sort.Load)
  held-rules sort.Row = rw h.2 ((lawful h.0 h.1).rules sort.Row)

  pub held-loads : s.loads.count ≤ n
  unfolding stored
  held-loads = rw (h.2, ← h.3) (lawful h.0 h.1).loads
