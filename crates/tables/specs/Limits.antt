-- The limits of "Loads and book" of paper 01, as one test of the tables. Each clause quotes its sentence.
-- Assumes nothing.
use Rattle.std.specs.Prelude.{ℕ, zero, suc, ◌*◌, ◌≡◌, Bool, true, false, ◌&&◌, ◌||◌, List, eqb, leb, length}
use Rattle.lists.specs.Tests.{every_from}
use Rattle.lists.specs.Places.{limited}
use Rattle.marks.specs.declared.Marks.{Marks}
use Rattle.marks.specs.Bits.{up_to}
use Rattle.marks.specs.Sets.{set_width}
use Rattle.tables.specs.declared.rule.RuleRange.{RuleRange}
use Rattle.tables.specs.declared.rule.Transition.{Transition}
use Rattle.tables.specs.declared.rule.Sort.TheVariants as sort
use Rattle.tables.specs.declared.load.Figure.{Figure}
use Rattle.tables.specs.declared.load.Figure.TheVariants as figure
use Rattle.tables.specs.declared.load.Load.{Load}
use Rattle.tables.specs.Tables.{Sort, Book, Tables, size_for, marks_for, rules_for}

-- is x from a to b?
abbrev pub between : ℕ → ℕ → ℕ → Bool
between a b x = leb a x && leb x b

-- "S and G from 1 to 8"
abbrev pub max_states : ℕ
max_states = 8

abbrev pub book_size : (states stages : ℕ) → Bool
book_size s g = between 1 max_states s && between 1 max_states g

-- "S and G are both 0 or neither is"
abbrev pub size_in : (states stages : ℕ) → Bool
size_in s g = (eqb s 0 && eqb g 0) || book_size s g

-- "marks stand only on states up to S and stages up to G"
abbrev pub marks_in : ℕ → Marks → Bool
marks_in n m = up_to n m.0

-- "A load and a load rule each gain a kind, 0 to 3" of request Eight of paper 02
abbrev pub max_kind : ℕ
max_kind = 3

abbrev pub kind_in : ℕ → Bool
kind_in k = leb k max_kind

-- "every figure and reference is in range": the three numbers of a rule of either sort, and its kind
unfoldable pub rule_in : RuleRange → Transition → Bool
rule_in m r = between 1 m.from r.from && between m.low m.high r.label && between 1 m.to r.to && leb r.kind m.kind

-- "Load rule (state, mark, stage)", mark 0 or 1, with a kind; "Row rule (stage, state, next stage)", which has none: 0 stands in its place
abbrev pub rule_range : (states stages : ℕ) → Sort → RuleRange
rule_range s g sort.Load = record { from = s; low = 0; high = 1; to = g; kind = max_kind }
rule_range s g sort.Row = record { from = g; low = 1; high = s; to = g; kind = 0 }

abbrev pub range_for : Book → Sort → RuleRange
range_for b k = rule_range b.states b.stages k

-- "Two load rules are the same only if their kinds agree too."
unfoldable pub same_rule : Transition → Transition → Bool
same_rule a b = eqb a.from b.from && eqb a.label b.label && eqb a.to b.to && eqb a.kind b.kind

-- "There are at most 32 rules of each sort"; "no rule is there twice"
abbrev pub max_rules : ℕ
max_rules = 32

abbrev pub rules_in : RuleRange → List Transition → Bool
rules_in m rs = limited (rule_in m) same_rule max_rules rs

-- what a book has of either sort is in range
unfoldable pub sort_in : Sort → Book → Bool
sort_in k b = marks_in (size_for b k) (marks_for b k) && rules_in (range_for b k) (rules_for b k)

unfoldable pub book_in : Book → Bool
book_in b = size_in b.states b.stages && sort_in sort.Load b && sort_in sort.Row b

-- "Load 1 is the root with parent 0; each later load has a parent with a smaller number."
abbrev pub parent_in : (number parent : ℕ) → Bool
parent_in zero p = false
parent_in (suc zero) p = eqb p 0
parent_in (suc (suc k)) p = between 1 (suc k) p

-- "Power is 0 to 500 watts, worth 0 to 1,000. The budget is 0 to 500 watts."
abbrev pub max_power : ℕ
max_power = 500

abbrev pub max_worth : ℕ
max_worth = 1000

abbrev pub max_budget : ℕ
max_budget = 500

abbrev pub most_of : Figure → ℕ
most_of figure.Power = max_power
most_of figure.Worth = max_worth

abbrev pub figure_in : Figure → ℕ → Bool
figure_in f x = leb x (most_of f)

abbrev pub budget_in : ℕ → Bool
budget_in b = leb b max_budget

unfoldable pub load_in : (number : ℕ) → Load → Bool
load_in k l = parent_in k l.parent && figure_in figure.Power l.power && figure_in figure.Worth l.worth && kind_in l.kind

-- "The limit becomes 128" of request Ten of paper 02: the code's limit; paper 01 has 64. What is shown of tables holds for every limit up to the
-- numbers that a set of loads can hold.
abbrev pub max_loads : ℕ
max_loads = 128

abbrev pub most_places : ℕ
most_places = set_width

-- "v is 0 to 64,000" of request Nine of paper 02, "`need` up to 128,000" of its request Ten: no set of as many loads as there are places for is worth
-- more
abbrev pub need_in : (places : ℕ) → ℕ → Bool
need_in n v = leb v (n * max_worth)

unfoldable pub loads_in : (places : ℕ) → List Load → Bool
loads_in n ls = leb (length ls) n && every_from load_in 1 ls

-- the tables keep the limits
unfoldable pub limits : Tables → Bool
limits t = book_in t.book && loads_in t.places t.loads && budget_in t.budget && leb t.places most_places

abbrev pub Limits : Tables → Type 0
Limits t = limits t ≡ true
