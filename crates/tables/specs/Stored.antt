-- The tables as a planner holds them, in arrays, and the test of tables that are handed in.
-- It stands for "A planner handed in keeps these limits when .." of paper 01, with "unused places hold 0". Assumes nothing.
use Rattle.std.specs.Prelude.{ℕ, ◌≡◌, Bool, ◌&&◌, List, eqb, length, take}
use Rattle.lists.specs.Arrays.{laid}
use Rattle.lists.specs.Places.{rest_free}
use Rattle.marks.specs.declared.Marks.{Marks}
use Rattle.tables.specs.declared.rule.Sort.TheVariants as sort
use Rattle.tables.specs.declared.rule.TransitionList.{TransitionList}
use Rattle.tables.specs.declared.load.LoadList.{LoadList}
use Rattle.tables.specs.declared.tables.StoredBook.{StoredBook}
use Rattle.tables.specs.declared.tables.StoredTables.{StoredTables}
use Rattle.tables.specs.declared.rule.Transition.{Transition}
use Rattle.tables.specs.declared.load.Load.{Load}
use Rattle.tables.specs.Tables.{Sort, Book, Tables, no_rule, no_load}
use Rattle.tables.specs.Limits.{max_rules, limits, Limits}

-- what a book in a planner has of either sort
abbrev pub held_size : StoredBook → Sort → ℕ
held_size b sort.Load = b.states
held_size b sort.Row = b.stages

abbrev pub held_marks : StoredBook → Sort → Marks
held_marks b sort.Load = b.starts
held_marks b sort.Row = b.ends

abbrev pub held_rules : StoredBook → Sort → TransitionList
held_rules b sort.Load = b.load_rules
held_rules b sort.Row = b.row_rules

-- where the tables lie; "unused places hold 0"
abbrev pub stored_rules : List Transition → TransitionList
stored_rules rs = record { items = laid no_rule max_rules rs; count = length rs }

abbrev pub stored_loads : (places : ℕ) → List Load → LoadList
stored_loads n ls = record { items = laid no_load n ls; count = length ls }

unfoldable pub stored_book : Book → StoredBook
stored_book b = record {
  states = b.states;
  stages = b.stages;
  starts = b.starts;
  ends = b.ends;
  load_rules = stored_rules b.load_rules;
  row_rules = stored_rules b.row_rules;
}

unfoldable pub stored : Tables → StoredTables
stored t = record { book = stored_book t.book; loads = stored_loads t.places t.loads; budget = t.budget }

-- the tables that lie there
abbrev pub rules_of : TransitionList → List Transition
rules_of l = take l.count l.items

abbrev pub loads_of : LoadList → List Load
loads_of l = take l.count l.items

-- the limit of loads is the number of places that the array has: 128 in the code, by its type
abbrev pub places_of : LoadList → ℕ
places_of l = length l.items

unfoldable pub book_of : StoredBook → Book
book_of b = record {
  states = b.states;
  stages = b.stages;
  starts = b.starts;
  ends = b.ends;
  load_rules = rules_of b.load_rules;
  row_rules = rules_of b.row_rules;
}

unfoldable pub tables_of : StoredTables → Tables
tables_of s = record { book = book_of s.book; loads = loads_of s.loads; budget = s.budget; places = places_of s.loads }

-- the arrays of rules have the lengths that their types give them
pub record Lengths (s : StoredTables) : Type 0 where
  pub rules : (k : Sort) → length (held_rules s.book k).items ≡ max_rules

-- "unused places hold 0"
unfoldable pub zero_rule : Transition → Bool
zero_rule r = eqb r.from 0 && eqb r.label 0 && eqb r.to 0 && eqb r.kind 0

unfoldable pub zero_load : Load → Bool
zero_load l = eqb l.parent 0 && eqb l.power 0 && eqb l.worth 0 && eqb l.kind 0

abbrev pub rules_free : TransitionList → Bool
rules_free l = rest_free zero_rule max_rules l.count l.items

abbrev pub loads_free : LoadList → Bool
loads_free l = rest_free zero_load (places_of l) l.count l.items

-- do tables that are handed in keep the limits?
unfoldable pub keeps_limits : StoredTables → Bool
keeps_limits s = rules_free s.book.load_rules && rules_free s.book.row_rules && loads_free s.loads && limits (tables_of s)

-- they hold tables that keep the limits, with so many places for loads
abbrev pub Holds : (places : ℕ) → StoredTables → Type 0
Holds n s = (t : Tables) × Limits t × (s ≡ stored t) × (t.places ≡ n)
