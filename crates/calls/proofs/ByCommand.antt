-- What demand 1 says of tables, output and work through rows, by the command that a line asks for. Assumes nothing.
use Prim.Native.Nat.{ℕ, ◌+◌, ◌≤◌, ◌<◌}
use mathlib.Core.Path.{◌≡◌, refl, ap, ◌∙◌}
use mathlib.Core.Bool.{Bool, true, false}
use mathlib.Core.List.{List}
use mathlib.Core.Logic.{◌⊎◌, inl, inr}
use native.Mathlib.Omega.{arith}
use borrow.Author.Tests.{lt-ltb, ltb-true, not-true}
use lib.ListN.{length}
use Rattle.lists.specs.Tests.{pick}
use Rattle.lines.specs.declared.Command.{Command}
use Rattle.lines.specs.declared.Command.TheVariants as line
use Rattle.lines.specs.Grammar.{parse, line_command}
use Rattle.lines.specs.Saved.{save_bytes}
use Rattle.lines.specs.Answers.{free_bytes}
use Rattle.lines.proofs.Sizes.{numbers-short}
use Rattle.tables.specs.Refusals as no
use Rattle.meaning.specs.Cells.{cells_of}
use Rattle.calls.specs.State.{State, StoredState, fresh, state_of, keeps}
use Rattle.calls.specs.Rows.{Cause, row, line_row, bytes_of, causes_of, is_change, is_show, cells_for}
use Rattle.calls.specs.Causes.{Applies, here, there, all_causes}
use Rattle.calls.specs.Printing.{zeroed, searched}
use Rattle.calls.specs.Calls.{Call, Done, row_for}
use Rattle.calls.specs.Demand1 as demand
use Rattle.calls.specs.Demand1.{bytes_for, bytes_needed, only_shows, looks, Demand1, ByCommand}
use Rattle.calls.proofs.Numbers.{Ascending, rising, lowest-least}
use Rattle.calls.proofs.Answers.{row_is}
use Rattle.calls.proofs.Rows.{line-right}

-- ---- the bytes that a line needs
-- they go by the command, and so by the line, alone
pub row-bytes : (s : State) (c : Command) → bytes_of (row s c) ≡ bytes_for c
unfolding row
row-bytes s (line.Change x) = refl
row-bytes s line.Plan = refl
row-bytes s (line.Check σ n) = refl
row-bytes s (line.Save f) = refl
row-bytes s line.Last = refl
row-bytes s (line.Need v) = refl
row-bytes s line.Broken = refl
row-bytes s line.TooLong = refl

-- so does whether it only shows
row_shows : (s : State) (c : Command) → is_show (row s c) ≡ only_shows c
unfolding row
row_shows s (line.Change x) = refl
row_shows s line.Plan = refl
row_shows s (line.Check σ n) = refl
row_shows s (line.Save f) = refl
row_shows s line.Last = refl
row_shows s (line.Need v) = refl
row_shows s line.Broken = refl
row_shows s line.TooLong = refl

-- and the cells that it works in
row-cells : (s : State) (c : Command) → cells_for (row s c) ≡ pick (looks c) (cells_of s.tables) 0
unfolding row
row-cells s (line.Change x) = refl
row-cells s line.Plan = refl
row-cells s (line.Check σ n) = refl
row-cells s (line.Save f) = refl
row-cells s line.Last = refl
row-cells s (line.Need v) = refl
row-cells s line.Broken = refl
row-cells s line.TooLong = refl

pub bytes-needed : (s : State) (l : List ℕ) → bytes_of (line_row s l) ≡ bytes_needed l
unfolding line_row bytes_needed
bytes-needed s l = row-bytes s (line_command l)

-- "1,024 bytes must be free from there"; "saves 4,096, and the line program lends 4,096"
pub needed-range : (l : List ℕ) → (free_bytes ≤ bytes_needed l) × (bytes_needed l ≤ save_bytes)
needed-range l = let x = line-right (fresh 0) 0 l in rw (← (bytes-needed (fresh 0) l)) (x.room, x.most)

-- no number of a row is 1
not-of-row : (cs : List Cause) → Ascending 2 cs → Applies no.unusable cs → ⊥
not-of-row cs a q = omega (arith, lowest-least 2 cs (rising 2 cs a) no.unusable q)

module _ (p : StoredState) (c : Call) (d : Done) (x : Demand1 p c d) where
  abbrev s : State
  s = state_of p

  room-needed : bytes_of (row_for s c) ≡ bytes_needed c.line
  room-needed = bytes-needed s c.line

  -- ---- refusal 1
  one-cause : Applies no.unusable (demand.causes_of p c) → (keeps p ≡ false) ⊎ (length c.output < c.place + bytes_needed c.line)
  unfolding all_causes
  one-cause (here e h) = inl (not-true (keeps p) h)
  one-cause (there (here e h)) = inr (rw (← room-needed) (ltb-true (length c.output) (c.place + bytes_of (row_for s c)) h))
  one-cause (there (there q)) = absurd (not-of-row (causes_of (length c.work) (row_for s c)) (line-right s (length c.work) c.line).ordered q)

  one-given : Applies no.unusable (demand.causes_of p c) → d.reply.number ≡ no.unusable
  one-given q = omega (arith, x.number.least no.unusable q)

  too_few : length c.output < c.place + bytes_needed c.line → Applies no.unusable (demand.causes_of p c)
  unfolding all_causes
  too_few l = there (here refl (lt-ltb (length c.output) (c.place + bytes_of (row_for s c)) (rw room-needed l)))

  -- ---- the work
  -- the cells that its row works in
  abbrev looked : Bool
  looked = looks (line_command c.line)

  cells_are : (b : Bool) → looked ≡ b → cells_for (row_for s c) ≡ pick b (cells_of s.tables) 0
  unfolding line_row
  cells_are b e = row-cells s (line_command c.line) ∙ rw e

  cleared : looked ≡ true → searched d.reply.number ≡ true → d.reply.work ≡ zeroed (cells_of s.tables) c.work
  cleared q h = x.cleared h ∙ ap (λ (n : ℕ). zeroed n c.work) (cells_are true q)

  unchanged : (looked ≡ true → searched d.reply.number ≡ true → ⊥) → d.reply.work ≡ c.work
  unfolding zeroed
  unchanged f = go (searched d.reply.number) refl looked refl
    where
      go : (b : Bool) → searched d.reply.number ≡ b → (l : Bool) → looked ≡ l → d.reply.work ≡ c.work
      go false h l q = x.unchanged h
      go true h true q = absurd (f q h)
      go true h false q = x.cleared h ∙ ap (λ (n : ℕ). zeroed n c.work) (cells_are false q)

  -- ---- what the planner keeps
  plans : parse c.line ≡ line.Plan → d.state.tables ≡ p.tables
  unfolding row
  plans q = x.still (ap is_change (row_is s c line.Plan q (numbers-short c.line line.Plan q refl)))

  shown : only_shows (line_command c.line) ≡ true → d.state ≡ p
  unfolding line_row
  shown e = x.shows (row_shows s (line_command c.line) ∙ e)

  pub by-command : ByCommand p c d
  by-command = record {
    tables = x.tables;
    plan = plans;
    shows = shown;
    one = (
      λ e. one-cause (rw e at (x.number.given (omega (arith, e)))),
      elim [ inl e ↦ one-given (here refl (rw e)) | inr l ↦ one-given (too_few l) ],
    );
    fits = rw (← room-needed) x.fits;
    cleared = cleared;
    unchanged = unchanged;
  }
