-- What the test of tables that are handed in says: unused places hold 0, counts are within their arrays, and the tables are lawful.
-- Assumes nothing.
use Prim.Native.Nat.{ℕ, ◌≤◌}
use mathlib.Core.Path.{◌≡◌}
use mathlib.Core.Bool.{Bool, true, ◌&&◌}
use mathlib.Core.List.{List}
use native.Mathlib.Omega.{arith}
use borrow.Author.Tests.{leb-true}
use lib.Dec.{leb}
use lib.ListN.{length, drop}
use lib.Seq.{length-take-le}
use Rattle.lists.specs.Tests.{every}
use Rattle.lists.specs.Places.{rest_free}
use Rattle.lists.proofs.Bools.{and_left, and_right}
use Rattle.tables.specs.declared.tables.StoredTables.{StoredTables}
use Rattle.tables.specs.declared.rule.Sort.TheVariants as sort
use Rattle.tables.specs.Tables.{Sort}
use Rattle.tables.specs.Limits.{max_rules, limits, Limits}
use Rattle.tables.specs.Lawful.{Lawful}
use Rattle.tables.specs.Stored.{held_rules, places_of, zero_rule, zero_load, tables_of, rules_free, loads_free, keeps_limits}
use Rattle.tables.proofs.Lawful.{lawful}

-- the test, apart
pub record Tested (s : StoredTables) : Type 0 where
  pub rules : (k : Sort) → rules_free (held_rules s.book k) ≡ true
  pub loads : loads_free s.loads ≡ true
  pub within : Limits (tables_of s)

pub tested : (s : StoredTables) → keeps_limits s ≡ true → Tested s
unfolding keeps_limits
tested s h =
    let a = rules_free s.book.load_rules in
    let b = rules_free s.book.row_rules in
    let d = loads_free s.loads in
    let three = and_left (a && b && d) (limits (tables_of s)) h in
    let two = and_left (a && b) d three in
    record {
      rules = elim [ sort.Load ↦ and_left a b two | sort.Row ↦ and_right a b two ];
      loads = and_right (a && b) d three;
      within = and_right (a && b && d) (limits (tables_of s)) h;
    }

-- no more places are in use than there are
few : {A : Type 0} (z : A → Bool) (n k : ℕ) (xs : List A) → rest_free z n k xs ≡ true → k ≤ n
few z n k xs h = leb-true k n (and_left (leb k n) (every z (drop k xs)) h)

pub record Kept (s : StoredTables) : Type 0 where
  pub rules : (k : Sort) → (held_rules s.book k).count ≤ max_rules
  pub loads : s.loads.count ≤ places_of s.loads
  pub counted : length (tables_of s).loads ≡ s.loads.count
  pub lawful : Lawful (tables_of s)

pub kept : (s : StoredTables) → keeps_limits s ≡ true → Kept s
unfolding tables_of
kept s h =
    let t = tested s h in
    let loads = few zero_load (places_of s.loads) s.loads.count s.loads.items t.loads in
    record {
      rules = λ k. few zero_rule max_rules (held_rules s.book k).count (held_rules s.book k).items (t.rules k);
      loads = loads;
      counted = length-take-le s.loads.count s.loads.items loads;
      lawful = lawful (tables_of s) t.within;
    }

-- no more loads than the array has places
pub few-loads : (n : ℕ) (s : StoredTables) → places_of s.loads ≡ n → Kept s → s.loads.count ≤ n
few-loads n s full k = omega (arith, k.loads)
