-- The tables on paper: plain lists and numbers, so that equal tables is plain equality.
-- They stand for "Book, marks, rules, loads and budget are the tables" and for the first five points of "Loads and book" of paper 01, and for
-- "A load and a load rule each gain a kind" of request Eight of paper 02.
-- Assumes nothing.
use Rattle.std.specs.Prelude.{ℕ, List, []}
use Rattle.marks.specs.declared.Marks.{Marks}
pub use Rattle.tables.specs.declared.rule.Sort.{Sort}
use Rattle.tables.specs.declared.rule.Sort.TheVariants as sort
pub use Rattle.tables.specs.declared.rule.Transition.{Transition}
pub use Rattle.tables.specs.declared.load.Load.{Load}

-- "State 1 to S and stage 1 to G .. Some states are start states, some stages are end stages."
-- "Load rule (state, mark, stage)"; "Row rule (stage, state, next stage)"; "numbered from 1 in order of entry"
pub record Book : Type 0 where
  pub states : ℕ
  pub stages : ℕ
  pub starts : Marks
  pub ends : Marks
  pub load_rules : List Transition
  pub row_rules : List Transition

-- "A state belongs to a load, a stage to a place in a row of children." What a book has of either sort: how many states or stages, the start
-- states or the end stages, the load rules or the row rules.
abbrev pub size_for : Book → Sort → ℕ
size_for b sort.Load = b.states
size_for b sort.Row = b.stages

abbrev pub marks_for : Book → Sort → Marks
marks_for b sort.Load = b.starts
marks_for b sort.Row = b.ends

abbrev pub rules_for : Book → Sort → List Transition
rules_for b sort.Load = b.load_rules
rules_for b sort.Row = b.row_rules

-- the loads are "numbered 1 to 64 in order of entry", to 128 with request Ten of paper 02: that is `places`, the limit of loads, which no line changes
pub record Tables : Type 0 where
  pub book : Book
  pub loads : List Load
  pub budget : ℕ
  pub places : ℕ

-- what an unused place holds
abbrev pub no_rule : Transition
no_rule = record { from = 0; label = 0; to = 0; kind = 0 }

abbrev pub no_load : Load
no_load = record { parent = 0; kind = 0; power = 0; worth = 0 }

-- "new book: no rules, no marks"
abbrev pub empty_book : (states stages : ℕ) → Book
empty_book s g = record { states = s; stages = g; starts = record { 0 = 0 }; ends = record { 0 = 0 }; load_rules = []; row_rules = [] }

-- "A fresh planner has 0 states and stages, no rules, no loads and budget 0."
unfoldable pub fresh : (places : ℕ) → Tables
fresh n = record { book = empty_book 0 0; loads = []; budget = 0; places = n }
