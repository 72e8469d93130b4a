-- `put_blanks` meets its contract. Assumes nothing.
use Prim.Native.Nat.{ℕ}
use mathlib.Core.Path.{refl}
use native.Mathlib.Omega.{arith}
use lib.ListN.{length-replicate}
use borrow.Author.Rules.{rules}
use Rattle.page.proofs.RowText.{filled-with}
use Rattle.page.proofs.rows.put_blanks.Goals as goal

pub returns : goal.returns
returns c = record {
  lent = refl;
  wrote = record { list = filled-with _ _ _ _ c.requires.0 c.requires.1 (c.fill.ensures.after (λ y e. search rules)); end = omega (arith, c.requires.0, length-replicate {A = ℕ}) };
}
