-- What each operation on the tables in a planner gives, for any contents of its arrays: the tables after it, or the refusal. It stands for the refusals 6 and 7 of "Causes and numbers" and for "an accepted line changes them as its row below says, a
-- refused one not at all" of paper 01, and for "`drop,k` removes load k" of request Three of paper 02. On tables that keep the limits these are
-- the changes on paper (proofs/Changes, proofs/Removed). Assumes nothing.
use Rattle.std.specs.Prelude.{ℕ, zero, suc, ◌+◌, ◌-◌, Bool, false, ◌&&◌, List, [], ◌∷◌, ◌++◌, map, Result, Ok, Err, leb, length, get_or, set, take, drop}
use Rattle.std.specs.Result.{result_map_both}
use Rattle.lists.specs.Tests.{pick, some}
use Rattle.marks.specs.Bits.{within}
use Rattle.marks.specs.declared.Marks.{Marks}
use Rattle.marks.specs.Sets.{marked}
use Rattle.tables.specs.declared.rule.Sort.TheVariants as sort
use Rattle.tables.specs.declared.rule.TransitionList.{TransitionList}
use Rattle.tables.specs.declared.load.Figure.{Figure}
use Rattle.tables.specs.declared.load.LoadList.{LoadList}
use Rattle.tables.specs.declared.tables.StoredBook.{StoredBook}
use Rattle.tables.specs.declared.tables.StoredTables.{StoredTables}
use Rattle.tables.specs.declared.refusal.Refusal.{Refusal}
use Rattle.tables.specs.declared.refusal.Refusal.TheVariants.{Full, SameRule}
use Rattle.tables.specs.Refusals as no
use Rattle.tables.specs.Tables.{Sort, Transition, Load, no_load, empty_book}
use Rattle.tables.specs.Limits.{max_rules, same_rule}
use Rattle.tables.specs.Stored.{held_marks, held_rules, rules_of, loads_of, places_of, stored_book}
use Rattle.tables.specs.Changes.{with_figure, reparented}

-- "64 loads or 32 rules of that sort already", 128 loads with request Ten: 6; "the same rule already in the book": 7; else 0
abbrev pub adding_number : (is_full is_there : Bool) → ℕ
adding_number is_full is_there = pick is_full no.full (pick is_there no.same_rule 0)

unfoldable pub rule_number : List Transition → Transition → ℕ
rule_number rs r = adding_number (leb max_rules (length rs)) (some (same_rule r) rs)

unfoldable pub load_number : (places : ℕ) → List Load → ℕ
load_number n ls = adding_number (leb n (length ls)) false

-- the same with the refusals by name, for a list that is x with the element added
abbrev pub adding : {A : Type 0} → (is_full is_there : Bool) → A → Result A Refusal
adding is_full is_there x = pick is_full (Err Full) (pick is_there (Err SameRule) (Ok x))

-- what is new where the number is 0, else what was
abbrev pub accepted : {A : Type 0} → ℕ → A → A → A
accepted zero new old = new
accepted (suc n) new old = old

-- ---- a list in an array: one more at the next place, another figure of one, or one fewer
unfoldable pub appended : TransitionList → Transition → Result TransitionList Refusal
appended l r = adding (leb max_rules (length (rules_of l))) (some (same_rule r) (rules_of l)) (record { items = set l.items l.count r; count = l.count + 1 })

unfoldable pub load_appended : LoadList → Load → Result LoadList Refusal
load_appended l x = adding (leb (places_of l) (length (loads_of l))) false (record { items = set l.items l.count x; count = l.count + 1 })

-- load k is at place k - 1; a number outside 1 to 128 reads an unused place, and changes nothing
unfoldable pub load_at : LoadList → (number : ℕ) → Load
load_at l k = pick (within (places_of l) k) (get_or l.items (k - 1) no_load) no_load

unfoldable pub load_replaced : LoadList → (number : ℕ) → Load → LoadList
load_replaced l k x = pick (within (places_of l) k) (record { items = set l.items (k - 1) x; count = l.count }) l

unfoldable pub figure_set : LoadList → Figure → (number value : ℕ) → LoadList
figure_set l f k x = load_replaced l k (with_figure f (load_at l k) x)

-- load k leaves: each later load comes one place down, with its parent's new number, and the last place is free. A number of no load changes
-- nothing.
abbrev pub moved_down : (k : ℕ) → List Load → List Load
moved_down k items = map (reparented k) (drop k items) ++ (no_load ∷ [])

unfoldable pub load_removed : LoadList → (number : ℕ) → LoadList
load_removed l k =
    pick (within (places_of l) k && leb k l.count) (record { items = take (k - 1) l.items ++ moved_down k l.items; count = l.count - 1 }) l

-- ---- tables in a planner, with a part anew
abbrev pub put_book : StoredTables → StoredBook → StoredTables
put_book s b = record { book = b; loads = s.loads; budget = s.budget }

abbrev pub put_loads : StoredTables → LoadList → StoredTables
put_loads s l = record { book = s.book; loads = l; budget = s.budget }

abbrev pub put_marks : Sort → StoredBook → Marks → StoredBook
put_marks sort.Load b m = record { states = b.states; stages = b.stages; starts = m; ends = b.ends; load_rules = b.load_rules; row_rules = b.row_rules }
put_marks sort.Row b m = record { states = b.states; stages = b.stages; starts = b.starts; ends = m; load_rules = b.load_rules; row_rules = b.row_rules }

abbrev pub put_rules : Sort → StoredBook → TransitionList → StoredBook
put_rules sort.Load b l = record { states = b.states; stages = b.stages; starts = b.starts; ends = b.ends; load_rules = l; row_rules = b.row_rules }
put_rules sort.Row b l = record { states = b.states; stages = b.stages; starts = b.starts; ends = b.ends; load_rules = b.load_rules; row_rules = l }

-- ---- the operations
unfoldable pub book_begun : StoredTables → (states stages : ℕ) → StoredTables
book_begun s q g = put_book s (stored_book (empty_book q g))

unfoldable pub mark_set : StoredTables → Sort → (number : ℕ) → StoredTables
mark_set s k q = put_book s (put_marks k s.book (marked (held_marks s.book k) q))

unfoldable pub rule_added : StoredTables → Sort → Transition → Result StoredTables Refusal
rule_added s k r = result_map_both (λ l. put_book s (put_rules k s.book l)) (λ e. e) (appended (held_rules s.book k) r)

unfoldable pub load_added : StoredTables → Load → Result StoredTables Refusal
load_added s x = result_map_both (put_loads s) (λ e. e) (load_appended s.loads x)

unfoldable pub figure_changed : StoredTables → Figure → (number value : ℕ) → StoredTables
figure_changed s f k x = put_loads s (figure_set s.loads f k x)

unfoldable pub load_dropped : StoredTables → (number : ℕ) → StoredTables
load_dropped s k = put_loads s (load_removed s.loads k)

unfoldable pub budget_changed : StoredTables → ℕ → StoredTables
budget_changed s w = record { book = s.book; loads = s.loads; budget = w }
