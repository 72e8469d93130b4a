-- `read` meets its contract: length before form. Assumes nothing.
use Prim.Native.Nat.{ℕ, ◌≤◌, ◌<◌}
use mathlib.Core.Path.{◌≡◌}
use mathlib.Core.List.{List}
use borrow.Author.Tests.{lt-ltb, le-ltb}
use lib.ListN.{length}
use Rattle.lines.specs.declared.Command.{Command}
use Rattle.lines.specs.declared.Command.TheVariants.{TooLong}
use Rattle.lines.specs.Length.{most_bytes}
use Rattle.lines.specs.Grammar.{parse, line_command}
use Rattle.lines.proofs.reading.read.Goals as goal

long : (s : List ℕ) → most_bytes < length s → TooLong ≡ line_command s
unfolding line_command
long s h = rw (lt-ltb most_bytes (length s) h)

short : (s : List ℕ) {c : Command} → length s ≤ most_bytes → c ≡ parse s → c ≡ line_command s
unfolding line_command
short s h e = rw (le-ltb most_bytes (length s) h) e

pub returns-then-line-gt-MOST_BYTES : goal.returns-then-line-gt-MOST_BYTES
returns-then-line-gt-MOST_BYTES c = long _ c.if-line-gt-MOST_BYTES.true

pub returns : goal.returns
returns c = short _ c.if-line-gt-MOST_BYTES.false c.read_form.ensures
