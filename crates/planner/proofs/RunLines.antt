-- The lines of a run: one load more, and that they are those of the entries that the run shows. Assumes nothing.
use Rattle.std.specs.Prelude.{Result, Ok, Err}
use Prim.Native.Nat.{ℕ, ◌+◌}
use mathlib.Core.Path.{◌≡◌, refl, sym, ap, ◌∙◌}
use mathlib.Core.List.{List, ◌++◌}
use mathlib.Core.Logic.{◌⊎◌, inl, inr}
use native.Mathlib.Numerals.{add-one}
use native.Mathlib.Omega.{arith}
use lib.Dec.{lit≤}
use lib.ListN.{length}
use Rattle.lists.proofs.Each.{each_at}
use Rattle.lines.specs.declared.Change.{Change}
use Rattle.lines.specs.declared.answer.Answer.{Answer}
use Rattle.lines.specs.declared.answer.Answer.TheVariants.{Accepted, Planned, Allowed, Saved, Needed}
use Rattle.lines.specs.Saved.{saved}
use Rattle.lines.specs.Answers.{entry_line, entry_lines, text_of}
use Rattle.lines.proofs.Answers.{entries-more}
use Rattle.lines.proofs.Writes.{writes_none}
use Rattle.lines.specs.Writing.{Writes}
use Rattle.lines.specs.declared.writing.Writer.{Writer}
use Rattle.tables.specs.Tables.{Tables}
use Rattle.tables.specs.Limits.{max_loads, Limits}
use Rattle.tables.proofs.Lawful.{lawful}
use Rattle.tables.specs.declared.entry.Entry.{Entry}
use Rattle.meaning.specs.Choice.{no_entry}
use Rattle.calls.specs.Rows.{Shown, shown_text}
use Rattle.calls.proofs.Rows.{OneEach, Listing}
use Rattle.runs.specs.declared.run.Run.{Run}
use Rattle.runs.specs.Runs.{run_of, entry_at, entries_to}
use Rattle.runs.proofs.Entries.{entries-read}
use Rattle.planner.specs.Decided.{entries_shown, run_shown}

-- ---- the lines of one load more
pub lines_none : (w : Writer) (r : Run) → Writes w w (entry_lines (entries_to r 0))
unfolding entries_to entry_lines
lines_none w r = writes_none w

pub lines_more : (r : Run) (i : ℕ) → entry_lines (entries_to r (i + 1)) ≡ entry_lines (entries_to r i) ++ entry_line (entry_at r i)
unfolding entries_to
lines_more r i = rw (add-one i) (entries-more (entries_to r i) (entry_at r i))

-- ---- what a row shows: its text with the lines of the run and of a save of the tables is its own
pub shown-lines : (t : Tables) → Limits t → t.places ≡ max_loads → (x : Shown) → Listing t x
    → text_of x.answer (entries_shown (run_shown x.answer x.entries) (length t.loads)) (saved t) ≡ shown_text x
shown-lines t h places x l = read x.answer refl ∙ entries l.entries ∙ changes l.changes
  where
    -- an answer with no load lines has them of no run
    read : (a : Result Answer ℕ) → x.answer ≡ a
        → text_of x.answer (entries_shown (run_shown x.answer x.entries) (length t.loads)) (saved t) ≡ text_of x.answer (entries_to (run_of max_loads x.entries) (length t.loads)) (saved t)
    read (Ok Accepted) e = rw e
    read (Ok (Planned v w n)) e = rw e
    read (Ok Allowed) e = rw e
    read (Ok (Saved f)) e = rw e
    read (Ok (Needed b)) e = rw e
    read (Err n) e = rw e

    entries : ((es : List Entry) (cs : List Change) → text_of x.answer es cs ≡ text_of x.answer x.entries cs) ⊎ OneEach t x.entries
        → text_of x.answer (entries_to (run_of max_loads x.entries) (length t.loads)) (saved t) ≡ text_of x.answer x.entries (saved t)
    entries (inl none) = none _ _
    entries (inr o) =
        let n = o.loads.all in
        ap (λ (es : List Entry). text_of x.answer es (saved t))
        (ap (entries_to (run_of max_loads x.entries)) (sym n) ∙ entries-read max_loads (lit≤ tt) x.entries o.loads.each (omega (arith, n, places, (lawful t h).loads)) (λ i b. (each_at no_entry o.ranged i b).mark))

    changes : ((cs : List Change) → text_of x.answer x.entries cs ≡ shown_text x) ⊎ (x.changes ≡ saved t)
        → text_of x.answer x.entries (saved t) ≡ shown_text x
    changes (inl none) = none _
    changes (inr e) = ap (text_of x.answer x.entries) (sym e)
