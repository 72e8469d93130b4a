-- The marked cases of "Edges on this tree" of paper 01, those of request Four of paper 02, and a cabinet with a safety reader for its request Eight,
-- in one table. Assumes nothing.
use Rattle.std.specs.Prelude.{ℕ, ◌≡◌, Bool, ◌&&◌, not, List, [], ◌∷◌, eqb}
use Rattle.tables.specs.declared.rule.Transition.{Transition}
use Rattle.tables.specs.declared.load.Load.{Load}
use Rattle.tables.specs.Tables.{Book, Tables}
use Rattle.tables.specs.Limits.{max_loads, limits}
use Rattle.meaning.specs.Sets.{power, worth, number_on, Optimum, NoneFits}
use Rattle.meaning.specs.Best.{best_plan}
use Rattle.meaning.specs.Choice.{plan_entries, shown_set}

abbrev of_kind : (kind : ℕ) → ℕ → ℕ → ℕ → Transition
of_kind k x l y = record { from = x; label = l; to = y; kind = k }

abbrev transition : ℕ → ℕ → ℕ → Transition
transition = of_kind 0

abbrev load_of : (kind : ℕ) → ℕ → ℕ → ℕ → Load
load_of k p w v = record { parent = p; kind = k; power = w; worth = v }

abbrev load : ℕ → ℕ → ℕ → Load
load = load_of 0

-- the tree of "One session, whole"
abbrev pub four_loads : List Load
four_loads = load 0 10 0 ∷ load 1 15 40 ∷ load 1 5 30 ∷ load 2 7 50 ∷ []

-- "two lone cameras of worth 20, one of 9 W and one of 6 W", below a feed that draws nothing, in both orders
abbrev pub warm_first : List Load
warm_first = load 0 0 0 ∷ load 1 9 20 ∷ load 1 6 20 ∷ []

abbrev pub cool_first : List Load
cool_first = load 0 0 0 ∷ load 1 6 20 ∷ load 1 9 20 ∷ []

-- "Safety readers must obey other rules than cameras": a camera of 3 W and a safety reader of 2 W and of kind 1, below a feed that draws nothing
abbrev pub with_reader : List Load
with_reader = load 0 0 0 ∷ load 1 3 20 ∷ load_of 1 1 2 1 ∷ []

-- "This book F keeps a load on only below a load that is on."
abbrev pub book_f : Book
book_f = record {
  states = 2;
  stages = 2;
  starts = record { 0 = 3 };
  ends = record { 0 = 3 };
  load_rules = transition 1 0 2 ∷ transition 1 1 1 ∷ transition 2 0 2 ∷ [];
  row_rules = transition 1 1 1 ∷ transition 2 2 2 ∷ [];
}

-- "Book I forbids two neighbours"
abbrev pub book_i : Book
book_i = record {
  states = 2;
  stages = 2;
  starts = record { 0 = 3 };
  ends = record { 0 = 3 };
  load_rules = transition 1 0 1 ∷ transition 1 1 2 ∷ transition 2 0 1 ∷ [];
  row_rules = transition 1 1 1 ∷ transition 2 2 2 ∷ [];
}

-- "Book K wants one connected group, not empty"
abbrev pub book_k : Book
book_k = record {
  states = 3;
  stages = 3;
  starts = record { 0 = 1 };
  ends = record { 0 = 3 };
  load_rules = transition 1 0 3 ∷ transition 1 1 2 ∷ transition 2 0 1 ∷ transition 2 1 2 ∷ transition 3 0 1 ∷ [];
  row_rules = transition 1 3 1 ∷ transition 2 2 2 ∷ transition 3 3 3 ∷ transition 3 1 1 ∷ [];
}

-- a load of kind 0 may be on or off, a safety reader is never off
abbrev pub book_readers : Book
book_readers = record {
  states = 1;
  stages = 1;
  starts = record { 0 = 1 };
  ends = record { 0 = 1 };
  load_rules = transition 1 0 1 ∷ transition 1 1 1 ∷ of_kind 1 1 1 1 ∷ [];
  row_rules = transition 1 1 1 ∷ [];
}

-- what a case says of the plan: its worth and power, that no load is on, or that there is none
pub data Expected : Type 0 where
  figures : (worth power : ℕ) → Expected
  no_load_on : Expected
  refusal9 : Expected

pub record Case : Type 0 where
  pub book : Book
  pub loads : List Load
  pub budget : ℕ
  pub expected : Expected

abbrev case : Book → List Load → ℕ → Expected → Case
case b ls c x = record { book = b; loads = ls; budget = c; expected = x }

-- "budget to worth"; the powers follow. Then "with .. space for one, the 6 W camera stays on"; then the reader: a poorer set keeps it on, and a book
-- with no rule of its kind has no set
abbrev pub cases : List Case
cases =
    case book_f four_loads 10 no_load_on
    ∷ case book_f four_loads 14 (figures 0 0)
    ∷ case book_f four_loads 15 (figures 30 15)
    ∷ case book_f four_loads 31 (figures 70 30)
    ∷ case book_f four_loads 32 (figures 90 32)
    ∷ case book_f four_loads 36 (figures 90 32)
    ∷ case book_f four_loads 37 (figures 120 37)
    ∷ case book_i four_loads 11 (figures 50 7)
    ∷ case book_i four_loads 12 (figures 80 12)
    ∷ case book_k four_loads 4 refusal9
    ∷ case book_k four_loads 5 (figures 30 5)
    ∷ case book_k four_loads 21 (figures 50 7)
    ∷ case book_k four_loads 22 (figures 90 22)
    ∷ case book_f warm_first 9 (figures 20 6)
    ∷ case book_f cool_first 9 (figures 20 6)
    ∷ case book_readers with_reader 1 refusal9
    ∷ case book_readers with_reader 4 (figures 1 2)
    ∷ case book_readers with_reader 5 (figures 21 5)
    ∷ case book_f with_reader 5 refusal9
    ∷ []

abbrev pub tables_for : Case → Tables
tables_for x = record { book = x.book; loads = x.loads; budget = x.budget; places = max_loads }

-- the set that the plan shows
abbrev pub shown : Tables → ℕ → ℕ
shown t = shown_set (plan_entries t)

-- do the tables keep the limits, and is their plan as expected?
abbrev pub meets : Tables → Expected → Bool
meets t (figures v w) = not (eqb (best_plan t) 0) && eqb (worth t (shown t)) v && eqb (power t (shown t)) w
meets t no_load_on = not (eqb (best_plan t) 0) && eqb (worth t (shown t)) 0 && eqb (number_on t (shown t)) 0
meets t refusal9 = eqb (best_plan t) 0

abbrev pub right : Case → Bool
right x = limits (tables_for x) && meets (tables_for x) x.expected

-- what each case comes to: an allowed set of these figures that fits, with none that fits worth more, and none of its worth that draws less; or
-- none fits
abbrev pub Comes : Tables → Expected → Type 0
Comes t (figures v w) = (σ : ℕ → ℕ) × Optimum t σ × (worth t σ ≡ v) × (power t σ ≡ w)
Comes t no_load_on = (σ : ℕ → ℕ) × Optimum t σ × (worth t σ ≡ 0) × (number_on t σ ≡ 0)
Comes t refusal9 = NoneFits t

abbrev pub AllCome : List Case → Type 0
AllCome [] = Unit {0}
AllCome (x ∷ xs) = Comes (tables_for x) x.expected × AllCome xs
