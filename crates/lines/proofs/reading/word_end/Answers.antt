-- `word_end` meets its contract: the place of the first comma, else the length. Assumes nothing.
use Prim.Native.Nat.{ℕ}
use mathlib.Core.Bool.{Bool}
use mathlib.Core.Path.{◌∙◌}
use lib.Dec.{eqb}
use Rattle.std.proofs.Common.{rules, tests}
use Rattle.std.proofs.lemmas.Iterator.{YieldsList-from_slice}
use Rattle.std.proofs.lemmas.Iterator.Search.{position_from_yields_List}
use Rattle.lines.specs.Text.{comma, before}
use Rattle.lines.proofs.Before.{first-or-length}
use Rattle.lines.proofs.reading.word_end.Goals as goal

abbrev is_comma : ℕ → Bool
is_comma b = eqb b comma

pub returns : goal.returns
unfolding before
returns c =
    c.unwrap_or.ensures
    ∙ first-or-length is_comma _ c.position.result (position_from_yields_List is_comma _ _ c.position.result c.position.ensures.ran (YieldsList-from_slice _ c.iter.ensures.rest) (λ x b q k. search (rules, tests)))
