-- What an answer shows, read off its printed bytes. Assumes nothing.
use Rattle.std.specs.Prelude.{ℕ, Bool, ◌&&◌, List, [], map, eqb, get_or, drop}
use Rattle.lists.specs.Tests.{some}
use Rattle.tables.specs.declared.entry.Entry.{Entry}
use Rattle.lines.specs.Grammar.{fields, value}
use Rattle.lines.specs.Input.{lines}

-- a number of a line, by the place of its field
abbrev pub number_at : List ℕ → ℕ → ℕ
number_at l i = value (get_or (fields l) i [])

-- a load line without its line feed
unfoldable pub entry_in : List ℕ → Entry
entry_in l = record { number = number_at l 0; mark = number_at l 1; state = number_at l 2; rule = number_at l 3; row = number_at l 4 }

-- the entries of a plan or of an allowed check: a line each, after the first line
unfoldable pub entries_in : List ℕ → List Entry
entries_in text = map entry_in (drop 1 (lines text))

-- "The set shown is the loads printed with mark 1."
abbrev pub on_in : List Entry → ℕ → Bool
on_in es k = some (λ e. eqb e.number k && eqb e.mark 1) es

abbrev pub shown : List ℕ → ℕ → Bool
shown text k = on_in (entries_in text) k
