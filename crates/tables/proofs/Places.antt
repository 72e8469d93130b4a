-- The test place by place and part by part, as the code goes, is the test of the limits. Assumes nothing.
use Prim.Native.Nat.{ℕ, zero, suc, ◌≤◌}
use mathlib.Core.Path.{◌≡◌, refl, sym}
use mathlib.Core.Bool.{Bool, true, false, ◌&&◌, ◌||◌}
use Rattle.lists.proofs.Places.{limited_tested, numbered_tested}
use native.Mathlib.Omega.{arith}
use borrow.Author.Tests.{ne_eqb, leb-true, le-leb, ltb-true, lt-ltb, le-ltb}
use lib.Dec.{eqb, leb, ltb}
use lib.ListN.{drop}
use Rattle.lists.specs.Tests.{every, every_from, distinct}
use Rattle.lists.proofs.Bools.{and-false, same_test}
use Rattle.tables.specs.declared.rule.RuleRange.{RuleRange}
use Rattle.tables.specs.declared.rule.Sort.TheVariants as sort
use Rattle.tables.specs.declared.rule.TransitionList.{TransitionList}
use Rattle.tables.specs.declared.load.LoadList.{LoadList}
use Rattle.tables.specs.declared.tables.StoredBook.{StoredBook}
use Rattle.tables.specs.declared.tables.StoredTables.{StoredTables}
use Rattle.tables.specs.Tables.{Sort, Load}
use Rattle.tables.specs.Limits.{size_in, marks_in, rule_in, same_rule, rule_range, rules_in, max_rules, sort_in, book_in, parent_in, max_power, max_worth, max_kind, load_in, most_places, loads_in, budget_in, limits}
use Rattle.tables.specs.Stored.{held_size, held_marks, held_rules, rules_of, loads_of, places_of, book_of, tables_of, zero_rule, zero_load, rules_free, loads_free, keeps_limits}
use Rattle.tables.specs.Places.{rules_held, loads_held, sort_held, book_held}

-- ---- a load: the root has parent 0, a later load a smaller number
below_suc : (a n : ℕ) → ltb a (suc n) ≡ leb a n
below_suc a n = same_test _ _ (λ h. le-leb a n (omega (arith, ltb-true a (suc n) h))) (λ h. lt-ltb a (suc n) (omega (arith, leb-true a n h)))

parent-in : (k p : ℕ) → (eqb k 1 && eqb p 0) || (leb 1 p && ltb p k) ≡ parent_in k p
parent-in zero p = rw (le-ltb p 0 (omega arith)) (and-false (leb 1 p))
parent-in (suc zero) zero = refl
parent-in (suc zero) (suc p) = rw (ne_eqb (suc p) 0 (λ e. omega arith), le-ltb (suc p) 1 (omega arith)) (and-false (leb 1 (suc p)))
parent-in (suc (suc k)) p = rw (ne_eqb (suc (suc k)) 1 (λ e. omega arith), below_suc p (suc k))

pub parent_test : (k p : ℕ) → parent_in k p ≡ (eqb k 1 && eqb p 0) || (leb 1 p && ltb p k)
parent_test k p = sym (parent-in k p)

pub load-range : (k : ℕ) (l : Load)
    → ((eqb k 1 && eqb l.parent 0) || (leb 1 l.parent && ltb l.parent k)) && leb l.power max_power && leb l.worth max_worth && leb l.kind max_kind ≡ load_in k l
unfolding load_in
load-range k l = rw (parent-in k l.parent)

-- ---- lists
pub rules_tested : (m : RuleRange) (l : TransitionList)
    → rules_held m l ≡ (leb l.count max_rules && every (rule_in m) (rules_of l) && distinct same_rule (rules_of l) && every zero_rule (drop l.count l.items))
unfolding rules_held
rules_tested m l = limited_tested zero_rule max_rules l.count l.items (rule_in m) same_rule

pub loads_tested : (l : LoadList) → loads_held l ≡ (leb l.count (places_of l) && every_from load_in 1 (loads_of l) && every zero_load (drop l.count l.items))
unfolding loads_held loads_in
loads_tested l = numbered_tested zero_load (places_of l) l.count l.items load_in

-- ---- the book, and the tables
sort-order : (a r x : Bool) → a && (r && x) ≡ r && (a && x)
sort-order false r x = sym (and-false r)
sort-order true r x = refl

pub sort_placed : (k : Sort) (b : StoredBook)
    → sort_held k b ≡ (marks_in (held_size b k) (held_marks b k) && rules_held (rule_range b.states b.stages k) (held_rules b k))
unfolding rules_held sort_held book_of sort_in
sort_placed sort.Load b = sym (sort-order (marks_in b.states b.starts) (rules_free b.load_rules) (rules_in (rule_range b.states b.stages sort.Load) (rules_of b.load_rules)))
sort_placed sort.Row b = sym (sort-order (marks_in b.stages b.ends) (rules_free b.row_rules) (rules_in (rule_range b.states b.stages sort.Row) (rules_of b.row_rules)))

book-order : (a r x s y : Bool) → a && (r && x) && (s && y) ≡ r && s && (a && x && y)
book-order false r x s y = sym (and-false (r && s))
book-order true false x s y = refl
book-order true true false s y = sym (and-false s)
book-order true true true s y = refl

pub book_placed : (b : StoredBook) → book_held b ≡ (size_in b.states b.stages && sort_held sort.Load b && sort_held sort.Row b)
unfolding sort_held book_held book_in book_of
book_placed b =
    sym (book-order (size_in b.states b.stages) (rules_free b.load_rules) (sort_in sort.Load (book_of b)) (rules_free b.row_rules) (sort_in sort.Row (book_of b)))

tables-order : (r b q l d : Bool) → (r && b) && (q && l) && d ≡ r && q && (b && l && d && true)
tables-order false b q l d = refl
tables-order true false q l d = sym (and-false q)
tables-order true true false l d = refl
tables-order true true true false d = refl
tables-order true true true true false = refl
tables-order true true true true true = refl

pub tables_placed : (s : StoredTables) → places_of s.loads ≤ most_places → keeps_limits s ≡ (book_held s.book && loads_held s.loads && budget_in s.budget)
unfolding book_held loads_held keeps_limits limits tables_of
tables_placed s h =
    rw (le-leb (places_of s.loads) most_places h)
    (sym (tables-order (rules_free s.book.load_rules && rules_free s.book.row_rules) (book_in (book_of s.book)) (loads_free s.loads)
    (loads_in (places_of s.loads) (loads_of s.loads)) (budget_in s.budget)))
