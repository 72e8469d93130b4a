-- What each accepted line changes in the tables on paper.
-- It stands for the rows of "Lines" of paper 01 that change a table, and for request Three of paper 02; each quotes its row. Assumes nothing.
use Rattle.std.specs.Prelude.{ℕ, ◌-◌, Bool, List, [], ◌∷◌, ◌++◌, map, eqb, ltb, get_or, set, take, drop}
use Rattle.lists.specs.Tests.{pick, some}
use Rattle.marks.specs.declared.Marks.{Marks}
use Rattle.marks.specs.Sets.{marked}
use Rattle.tables.specs.declared.rule.Transition.{Transition}
use Rattle.tables.specs.declared.rule.Sort.TheVariants as sort
use Rattle.tables.specs.declared.load.Figure.{Figure}
use Rattle.tables.specs.declared.load.Figure.TheVariants as figure
use Rattle.tables.specs.declared.load.Load.{Load}
use Rattle.tables.specs.Tables.{Sort, Book, Tables, no_load, marks_for, rules_for, empty_book}

-- tables with a part anew
abbrev pub with_book : Tables → Book → Tables
with_book t b = record { book = b; loads = t.loads; budget = t.budget; places = t.places }

abbrev pub with_loads : Tables → List Load → Tables
with_loads t ls = record { book = t.book; loads = ls; budget = t.budget; places = t.places }

abbrev pub with_marks : Sort → Book → Marks → Book
with_marks sort.Load b m = record { states = b.states; stages = b.stages; starts = m; ends = b.ends; load_rules = b.load_rules; row_rules = b.row_rules }
with_marks sort.Row b m = record { states = b.states; stages = b.stages; starts = b.starts; ends = m; load_rules = b.load_rules; row_rules = b.row_rules }

abbrev pub with_rules : Sort → Book → List Transition → Book
with_rules sort.Load b rs = record { states = b.states; stages = b.stages; starts = b.starts; ends = b.ends; load_rules = rs; row_rules = b.row_rules }
with_rules sort.Row b rs = record { states = b.states; stages = b.stages; starts = b.starts; ends = b.ends; load_rules = b.load_rules; row_rules = rs }

-- "book,S,G: new book: no rules, no marks; loads and budget stay"
abbrev pub new_book : Tables → (states stages : ℕ) → Tables
new_book t s g = with_book t (empty_book s g)

-- "start,q / end,g: marks a state / a stage; a second time changes nothing"
abbrev pub mark : Tables → Sort → (number : ℕ) → Tables
mark t k q = with_book t (with_marks k t.book (marked (marks_for t.book k) q))

-- "rule,q,m,g / row,g,q,h: adds a load rule / a row rule"; with request Eight `rule,q,m,g,kind`
abbrev pub add_rule : Tables → Sort → Transition → Tables
add_rule t k r = with_book t (with_rules k t.book (rules_for t.book k ++ (r ∷ [])))

-- "load,p,w,v: adds the next load: parent, power, worth"; with request Eight `load,p,w,v,kind`
abbrev pub add_load : Tables → Load → Tables
add_load t l = with_loads t (t.loads ++ (l ∷ []))

-- "power,k,w / worth,k,v: sets one figure of load k"
abbrev pub with_figure : Figure → Load → ℕ → Load
with_figure figure.Power l w = record { parent = l.parent; kind = l.kind; power = w; worth = l.worth }
with_figure figure.Worth l v = record { parent = l.parent; kind = l.kind; power = l.power; worth = v }

abbrev pub on_load : (Load → Load) → ℕ → List Load → List Load
on_load f k ls = set ls (k - 1) (f (get_or ls (k - 1) no_load))

abbrev pub set_figure : Tables → Figure → (number value : ℕ) → Tables
set_figure t f k x = with_loads t (on_load (λ l. with_figure f l x) k t.loads)

-- "`drop,k` removes load k if it has no children": is a load a child of load k, and is one among these?
abbrev pub is_child : (number : ℕ) → Load → Bool
is_child k l = eqb l.parent k

unfoldable pub has_children : (number : ℕ) → List Load → Bool
has_children k ls = some (is_child k) ls

-- "higher numbers fall by one, in parents too": the number of a load after load k has left, and a load with its parent's
abbrev pub fallen : (k number : ℕ) → ℕ
fallen k n = pick (ltb k n) (n - 1) n

abbrev pub reparented : (k : ℕ) → Load → Load
reparented k l = record { parent = fallen k l.parent; kind = l.kind; power = l.power; worth = l.worth }

-- the loads without load k, in their order
unfoldable pub remaining : (k : ℕ) → List Load → List Load
remaining k ls = map (reparented k) (take (k - 1) ls ++ drop k ls)

abbrev pub drop_load : Tables → (number : ℕ) → Tables
drop_load t k = with_loads t (remaining k t.loads)

-- "budget,b: sets the budget"
abbrev pub set_budget : Tables → ℕ → Tables
set_budget t w = record { book = t.book; loads = t.loads; budget = w; places = t.places }
