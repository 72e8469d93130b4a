-- What is printed: paper 01, "An accepted change prints `ok`" and what follows. Assumes nothing.
use Rattle.std.specs.Prelude.{ℕ, zero, suc, ◌+◌, ◌≤◌, ◌<◌, ◌≡◌, List, [], ◌∷◌, ◌++◌, length, Result, Ok, Err}
use Rattle.std.proofs.lemmas.List.Edits.{sets}
use Rattle.lists.specs.Each.{Each}
use Rattle.tables.specs.declared.entry.Entry.{Entry}
use Rattle.tables.specs.Limits.{max_states, max_rules}
pub use Rattle.tables.specs.Refusals.{numbered}
use Rattle.lines.specs.declared.answer.Answer.{Answer}
use Rattle.lines.specs.declared.answer.Answer.TheVariants.{Accepted, Planned, Allowed, Saved, Needed}
use Rattle.lines.specs.declared.Change.{Change}
use Rattle.lines.specs.Text.{bytes, comma, line_feed, field}
use Rattle.lines.specs.Saved.{changes_text}

-- "An accepted change prints `ok`."
abbrev pub ok : List ℕ
ok = bytes "ok\n"

-- "An allowed check prints `yes`"
abbrev pub yes : List ℕ
yes = bytes "yes\n"

-- "A refusal prints `no,N`."
unfoldable pub refused : ℕ → List ℕ
refused n = bytes "no," ++ field n line_feed

-- "A plan prints `plan,worth,power,n`"
unfoldable pub plan_line : (worth power n : ℕ) → List ℕ
plan_line v w n = bytes "plan," ++ field v comma ++ field w comma ++ field n line_feed

-- "`need,v` prints `need,b`" of request Nine of paper 02
unfoldable pub need_line : (budget : ℕ) → List ℕ
need_line b = bytes "need," ++ field b line_feed

-- "and then for each load `number,mark,state,load rule,row rule`"
unfoldable pub entry_line : Entry → List ℕ
entry_line e = field e.number comma ++ field e.mark comma ++ field e.state comma ++ field e.rule comma ++ field e.row line_feed

unfoldable pub entry_lines : List Entry → List ℕ
entry_lines [] = []
entry_lines (e ∷ es) = entry_line e ++ entry_lines es

-- ---- what a line is answered, or the number that refuses it: for each case the paper's number and text. "A call on a line returns its number, 0 if
-- accepted"
abbrev pub number_of : {A : Type 0} → Result A ℕ → ℕ
number_of (Ok a) = 0
number_of (Err n) = n

-- the text of an answer: with the lines of the run beside it, or of the changes that a save writes
abbrev pub answer_text : Answer → List Entry → List Change → List ℕ
answer_text Accepted es cs = ok
answer_text (Planned v w n) es cs = plan_line v w n ++ entry_lines es
answer_text Allowed es cs = yes ++ entry_lines es
answer_text (Saved f) es cs = changes_text f cs
answer_text (Needed b) es cs = need_line b

abbrev pub text_of : Result Answer ℕ → List Entry → List Change → List ℕ
text_of (Ok a) es cs = answer_text a es cs
text_of (Err n) es cs = refused n

-- the answer of a change with this number
abbrev pub answer_of : ℕ → Result Answer ℕ
answer_of zero = Ok Accepted
answer_of (suc n) = Err (suc n)

-- "1,024 bytes must be free from there."
abbrev pub free_bytes : ℕ
free_bytes = 1024

-- "`plan`, `last` and `check` need 2,048 free bytes" of request Ten of paper 02
abbrev pub run_bytes : ℕ
run_bytes = 2048

-- the figures of a line are in the ranges of "Loads and book": 8 states, 32 rules of each sort, and loads of at most three digits
pub record Ranged (e : Entry) : Type 0 where
  pub number : e.number < 1000
  pub mark : e.mark ≤ 1
  pub state : e.state ≤ max_states
  pub rule : e.rule ≤ max_rules
  pub row : e.row ≤ max_rules

abbrev pub AllRanged : List Entry → Type 0
AllRanged es = Each Ranged es

-- bytes were written from a place on, all other bytes keep their values, and the next place is the one after them
pub record Wrote (before after : List ℕ) (at next : ℕ) (text : List ℕ) : Type 0 where
  pub list : after ≡ sets before at text
  pub end : next ≡ at + length text
