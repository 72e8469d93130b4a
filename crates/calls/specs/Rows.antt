-- What each line of the table asks for: a row a line, with the bytes that it needs, its causes in the order of their numbers, and what it does
-- where none applies. What a call returns and leaves is read off its row.
-- It stands for the table of "Lines" and rows 2 to 10 of "Causes and numbers" of paper 01, and for the commands `save`, `drop`, `last` and `save1` of
-- requests Two, Three, Five and Eight of paper 02, and `need` of its request Nine.
-- Assumes nothing.
use Rattle.std.specs.Prelude.{ℕ, suc, Bool, true, false, ◌&&◌, not, List, [], ◌∷◌, ◌++◌, eqb, leb, ltb, length, Result, Ok}
use Rattle.lists.specs.Tests.{some}
use Rattle.marks.specs.Sets.{mark_in}
use Rattle.lines.specs.declared.SaveForm.{SaveForm}
use Rattle.lines.specs.declared.Change.{Change}
use Rattle.lines.specs.declared.Change.TheVariants as to
use Rattle.lines.specs.declared.Command.{Command}
use Rattle.lines.specs.declared.Command.TheVariants as line
use Rattle.lines.specs.declared.answer.Answer.{Answer}
use Rattle.lines.specs.declared.answer.Answer.TheVariants.{Accepted, Planned, Allowed, Saved, Needed}
use Rattle.lines.specs.Grammar.{line_command}
use Rattle.lines.specs.Saved.{saved, loses_kinds, save_bytes}
use Rattle.lines.specs.Answers.{free_bytes, run_bytes, text_of}
use Rattle.tables.specs.declared.rule.Transition.{Transition}
use Rattle.tables.specs.declared.rule.Sort.{Sort}
use Rattle.tables.specs.declared.rule.Sort.TheVariants as sort
use Rattle.tables.specs.declared.load.Figure.{Figure}
use Rattle.tables.specs.declared.load.Figure.TheVariants as figure
use Rattle.tables.specs.declared.load.Load.{Load}
use Rattle.tables.specs.Refusals as no
use Rattle.tables.specs.Tables as on-paper
use Rattle.tables.specs.Tables.{Tables, size_for, rules_for}
use Rattle.tables.specs.Limits.{between, book_size, rule_in, range_for, same_rule, max_rules, load_in, figure_in, budget_in, need_in}
use Rattle.tables.specs.Changes.{new_book, mark, add_rule, add_load, set_figure, has_children, drop_load, set_budget}
use Rattle.meaning.specs.Sets.{power, worth, number_on}
use Rattle.meaning.specs.Best.{best_check}
use Rattle.tables.specs.declared.entry.Entry.{Entry}
use Rattle.meaning.specs.Choice.{plan_entries, check_entries, shown_set}
use Rattle.meaning.specs.Cells.{cells_of}
use Rattle.meaning.specs.Need.{none_fits, poorer, least_budget}
use Rattle.runs.specs.Outcome.{is_nothing, is_no_set, entries_of}
use Rattle.calls.specs.State.{State}

pub record Cause : Type 0 where
  pub number : ℕ
  pub applies : Bool

infix 20 ◌if◌
abbrev pub ◌if◌ : ℕ → Bool → Cause
n if b = record { number = n; applies = b }

-- a change: what refuses it, and the tables after it
pub record Changing : Type 0 where
  pub causes : List Cause
  pub after : Tables

-- an answer or a refusal, the entries whose load lines it shows, and the changes whose lines it writes
pub record Shown : Type 0 where
  pub answer : Result Answer ℕ
  pub entries : List Entry
  pub changes : List Change

-- a row: a change prints `ok`; what shows changes nothing; what works needs cells (8) besides, and if it looked leaves them 0 and, where it stores,
-- stores what it found
pub data Row : Type 0 where
  changes : Changing → Row
  shows : (bytes : ℕ) (causes : List Cause) (shown : Shown) → Row
  works : (stores : Bool) (bytes cells : ℕ) (before after : List Cause) (shown : Shown) → Row

-- ---- what is shown
abbrev pub alone : Result Answer ℕ → Shown
alone a = record { answer = a; entries = []; changes = [] }

-- "A plan prints `plan,worth,power,n`, n being the number of loads on": the figures of the set shown
abbrev pub showing_plan : Tables → List Entry → Shown
showing_plan t es = record { answer = Ok (Planned (worth t (shown_set es)) (power t (shown_set es)) (number_on t (shown_set es))); entries = es; changes = [] }

-- "An allowed check prints `yes` and the same load lines."
abbrev pub showing_check : List Entry → Shown
showing_check es = record { answer = Ok Allowed; entries = es; changes = [] }

-- "The command `save` writes lines that rebuild the state" of request Two, in a form
abbrev pub showing_save : SaveForm → Tables → Shown
showing_save f t = record { answer = Ok (Saved f); entries = []; changes = saved t }

abbrev pub shown_text : Shown → List ℕ
shown_text x = text_of x.answer x.entries x.changes

unfoldable pub plan_text : Tables → List Entry → List ℕ
plan_text t es = shown_text (showing_plan t es)

unfoldable pub check_text : List Entry → List ℕ
check_text es = shown_text (showing_check es)

-- ---- the table
-- the rule or the load that a line names
abbrev pub rule : ℕ → ℕ → ℕ → (kind : ℕ) → Transition
rule x l y k = record { from = x; label = l; to = y; kind = k }

abbrev pub load : ℕ → ℕ → ℕ → (kind : ℕ) → Load
load p w v k = record { parent = p; kind = k; power = w; worth = v }

-- is k the number of a load?
abbrev pub is_load : Tables → ℕ → Bool
is_load t k = between 1 (length t.loads) k

-- "checked set not allowed"
unfoldable pub not_allowed : Tables → (ℕ → ℕ) → Bool
not_allowed t σ = eqb (best_check t σ) 0

abbrev pub unless : List Cause → Tables → Changing
unless cs u = record { causes = cs; after = u }

-- a state is marked, or a stage
abbrev pub marking : Tables → Sort → (number : ℕ) → Changing
marking t k q = unless ((no.out_of_range if not (between 1 (size_for t.book k) q)) ∷ []) (mark t k q)

-- a rule of either sort is added
abbrev pub rule_causes : (fits : Bool) → Transition → List Transition → List Cause
rule_causes fits r rs = (no.out_of_range if not fits) ∷ (no.full if leb max_rules (length rs)) ∷ (no.same_rule if some (same_rule r) rs) ∷ []

abbrev pub adding : Tables → Sort → Transition → Changing
adding t k r = unless (rule_causes (rule_in (range_for t.book k) r) r (rules_for t.book k)) (add_rule t k r)

-- a figure of a load is set
abbrev pub setting : Tables → Figure → (number value : ℕ) → Changing
setting t f k x = unless ((no.out_of_range if not (is_load t k && figure_in f x)) ∷ []) (set_figure t f k x)

unfoldable pub changing : Tables → Change → Changing
-- "clear: back to fresh"
changing t to.Clear = unless [] (on-paper.fresh t.places)
-- "book,S,G: new book: no rules, no marks; loads and budget stay"
changing t (to.Book s g) = unless ((no.out_of_range if not (book_size s g)) ∷ []) (new_book t s g)
-- "start,q / end,g: marks a state / a stage; a second time changes nothing"
changing t (to.Start q) = marking t sort.Load q
changing t (to.End g) = marking t sort.Row g
-- "rule,q,m,g / row,g,q,h: adds a load rule / a row rule"; a load rule with its kind, and a row rule, which has none, with 0
changing t (to.Rule q m g k) = adding t sort.Load (rule q m g k)
changing t (to.Row g q h) = adding t sort.Row (rule g q h 0)
-- "load,p,w,v: adds the next load: parent, power, worth", and its kind
changing t (to.Load p w v k) =
    unless ((no.out_of_range if not (load_in (suc (length t.loads)) (load p w v k))) ∷ (no.full if leb t.places (length t.loads)) ∷ []) (add_load t (load p w v k))
-- "power,k,w / worth,k,v: sets one figure of load k"
changing t (to.Power k w) = setting t figure.Power k w
changing t (to.Worth k v) = setting t figure.Worth k v
-- "budget,b: sets the budget"
changing t (to.Budget b) = unless ((no.out_of_range if not (budget_in b)) ∷ []) (set_budget t b)
-- "`drop,k` removes load k if it has no children"; "11, load k has children, tested after 5"
changing t (to.Drop k) = unless ((no.out_of_range if not (is_load t k)) ∷ (no.has_children if has_children k t.loads) ∷ []) (drop_load t k)

-- a line that has this number whatever the state
abbrev pub refuses : ℕ → Row
refuses n = shows free_bytes ((n if true) ∷ []) (alone (Ok Accepted))

unfoldable pub row : State → Command → Row
row s (line.Change c) = changes (changing s.tables c)
-- "plan: shows the plan"; "`plan`, `last` and `check` need 2,048 free bytes" of request Ten of paper 02
row s line.Plan =
    let t = s.tables in
    works true run_bytes (cells_of t) ((no.no_loads if eqb (length t.loads) 0) ∷ []) ((no.none_fits if none_fits t) ∷ []) (showing_plan t (plan_entries t))
-- "check,bits: one 0 or 1 for each load: is this set allowed?"
row s (line.Check σ n) =
    let t = s.tables in
    shows run_bytes
    ((no.no_loads if eqb (length t.loads) 0) ∷ (no.out_of_range if not (eqb n (length t.loads))) ∷ (no.not_allowed if not_allowed t (mark_in σ)) ∷ [])
    (showing_check (check_entries t (mark_in σ)))
-- "The command `save` writes lines that rebuild the state"; "saves 4,096" of request Ten, "and fewer is refusal 1." `save1` "needs the same free bytes";
-- "14, `save1` while some load or load rule has a kind other than 0, tested after 5"
row s (line.Save f) = let t = s.tables in shows save_bytes ((no.kinds_in_use if loses_kinds f t) ∷ []) (showing_save f t)
-- "`last` shows the latest outcome of `plan`, refusal 9 included (returned as 9)"; "12, no current plan, tested after 5"
row s line.Last =
    let o = s.outcome in
    shows run_bytes ((no.none_fits if is_no_set o) ∷ (no.no_plan if is_nothing o) ∷ []) (showing_plan s.tables (entries_of o))
-- "`need,v` prints `need,b`"; "v is 0 to 64,000", to 128,000 with request Ten. "It needs a plan's cells, meets 4 and 8 .., and says 9 when no allowed set
-- fits the budget in force";
-- "15, the plan at the budget in force has worth below v, tested after 9"
row s (line.Need v) =
    let t = s.tables in
    works false free_bytes (cells_of t)
    ((no.no_loads if eqb (length t.loads) 0) ∷ (no.out_of_range if not (need_in t.places v)) ∷ [])
    ((no.none_fits if none_fits t) ∷ (no.too_poor if poorer t v) ∷ [])
    (alone (Ok (Needed (least_budget t v))))
-- "no command of the table, wrong field count or form"
row s line.Broken = refuses no.broken
-- "line over 80 bytes", 144 with request Ten
row s line.TooLong = refuses no.too_long

unfoldable pub line_row : State → List ℕ → Row
line_row s l = row s (line_command l)

-- ---- what is read off a row
-- the bytes that must be free
abbrev pub bytes_of : Row → ℕ
bytes_of (changes x) = free_bytes
bytes_of (shows b cs x) = b
bytes_of (works k b m before after x) = b

-- no row needs more
abbrev pub most_bytes : ℕ
most_bytes = save_bytes

-- the causes, in the order of their numbers
abbrev pub causes_of : (cells : ℕ) → Row → List Cause
causes_of n (changes x) = x.causes
causes_of n (shows b cs x) = cs
causes_of n (works k b m before after x) = before ++ ((no.too_few_cells if ltb n m) ∷ after)

-- the tables after it
abbrev pub effect_of : Tables → Row → Tables
effect_of t (changes x) = x.after
effect_of t (shows b cs x) = t
effect_of t (works k b m before after x) = t

-- can it change the tables, and does it leave all that the planner keeps?
abbrev pub is_change : Row → Bool
is_change (changes x) = true
is_change (shows b cs x) = false
is_change (works k b m before after x) = false

abbrev pub is_show : Row → Bool
is_show (changes x) = false
is_show (shows b cs x) = true
is_show (works k b m before after x) = not k

-- "An accepted change prints `ok`."
abbrev pub shown_of : Row → Shown
shown_of (changes x) = alone (Ok Accepted)
shown_of (shows b cs x) = x
shown_of (works k b m before after x) = x

-- the cells that it works in
abbrev pub cells_for : Row → ℕ
cells_for (changes x) = 0
cells_for (shows b cs x) = 0
cells_for (works k b m before after x) = m
