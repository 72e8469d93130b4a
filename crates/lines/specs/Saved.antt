-- The lines of a save: the changes that rebuild the tables, and their text.
-- It stands for request Two of paper 02: "`clear`, then `book` if there are states, starts and ends ascending, rules, rows and loads in
-- order, `budget` last. Numbers are written without padding."; for "`save` now writes every kind, 0 too, and `save1` writes the form of request Two and
-- needs the same free bytes as `save`" of request Eight; and for "saves 4,096" of request Ten. Assumes nothing.
use Rattle.std.specs.Prelude.{ℕ, zero, suc, Bool, false, List, [], ◌∷◌, ◌++◌, map, eqb}
use Rattle.lists.specs.Tests.{pick}
use Rattle.marks.specs.declared.Marks.{Marks}
use Rattle.marks.specs.Bits.{has_mark}
use Rattle.tables.specs.declared.rule.Sort.{Sort}
use Rattle.tables.specs.declared.rule.Sort.TheVariants as sort
use Rattle.tables.specs.declared.rule.Transition.{Transition}
use Rattle.tables.specs.declared.load.Load as load
use Rattle.tables.specs.Tables as tables
use Rattle.tables.specs.Tables.{Tables}
use Rattle.tables.specs.Kinds.{has_kinds}
use Rattle.lines.specs.declared.SaveForm.{SaveForm}
use Rattle.lines.specs.declared.SaveForm.TheVariants as form
use Rattle.lines.specs.declared.Change.{Change}
use Rattle.lines.specs.declared.Change.TheVariants.{Clear, Book, Start, End, Rule, Row, Load, Budget}
use Rattle.lines.specs.Written.{change_line}

-- ---- the changes
-- "starts and ends": a state is marked, or a stage
abbrev pub mark_change : Sort → ℕ → Change
mark_change sort.Load q = Start q
mark_change sort.Row g = End g

-- "ascending": those of the numbers 1 to n that are marked
abbrev pub mark_if_set : Sort → Marks → ℕ → List Change
mark_if_set k m q = pick (has_mark m.0 q) (mark_change k q ∷ []) []

unfoldable pub mark_changes : Sort → Marks → (size : ℕ) → List Change
mark_changes k m zero = []
mark_changes k m (suc n) = mark_changes k m n ++ mark_if_set k m (suc n)

-- "rules, rows": a rule of either sort is added
abbrev pub rule_change : Sort → Transition → Change
rule_change sort.Load r = Rule r.from r.label r.to r.kind
rule_change sort.Row r = Row r.from r.label r.to

-- "and loads"
abbrev pub load_change : load.Load → Change
load_change l = Load l.parent l.power l.worth l.kind

-- "`book` if there are states"
unfoldable pub size_change : (states stages : ℕ) → List Change
size_change s g = pick (eqb s 0) [] (Book s g ∷ [])

unfoldable pub book_changes : tables.Book → List Change
book_changes b =
    size_change b.states b.stages
    ++ mark_changes sort.Load b.starts b.states
    ++ mark_changes sort.Row b.ends b.stages
    ++ map (rule_change sort.Load) b.load_rules
    ++ map (rule_change sort.Row) b.row_rules

unfoldable pub saved : Tables → List Change
saved t = (Clear ∷ []) ++ book_changes t.book ++ map load_change t.loads ++ (Budget t.budget ∷ [])

-- ---- their text in a form: a line each
unfoldable pub changes_text : SaveForm → List Change → List ℕ
changes_text f [] = []
changes_text f (c ∷ cs) = change_line f c ++ changes_text f cs

abbrev pub save_text : SaveForm → Tables → List ℕ
save_text f t = changes_text f (saved t)

-- would it lose a kind, where some are in use? "`save1` while some load or load rule has a kind other than 0"
abbrev pub loses : SaveForm → (in_use : Bool) → Bool
loses form.Kinds b = false
loses form.Plain b = b

abbrev pub loses_kinds : SaveForm → Tables → Bool
loses_kinds f t = loses f (has_kinds t)

-- a save "needs 3,000 free bytes" of request Two, "saves 4,096" of request Ten, and so does `save1`
abbrev pub save_bytes : ℕ
save_bytes = 4096
