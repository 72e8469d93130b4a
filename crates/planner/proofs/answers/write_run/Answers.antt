-- `write_run` meets its contract: where no run is shown, nothing is written. Assumes nothing.
use Rattle.std.specs.Prelude.{Option, None, Some}
use Prim.Native.Nat.{ℕ}
use mathlib.Core.Path.{◌≡◌, refl}
use Rattle.lines.specs.declared.writing.Writer.{Writer}
use Rattle.lines.specs.Answers.{entry_lines}
use Rattle.lines.specs.Writing.{Writes}
use Rattle.lines.proofs.Writes.{writes_none}
use Rattle.runs.specs.declared.run.Run.{Run}
use Rattle.planner.specs.Decided.{entries_shown}
use Rattle.planner.proofs.answers.write_run.Goals as goal

none : (r : Option Run) → ((x : Run) → r ≡ Some x → ⊥) → (w : Writer) (n : ℕ) → Writes w w (entry_lines (entries_shown r n))
unfolding entry_lines
none None d w n = writes_none w
none (Some x) d w n = absurd (d x refl)

pub returns-in_default : goal.returns-in_default
returns-in_default c = none c.args.run c.in_default.not-Some c.args.w.now c.args.n
