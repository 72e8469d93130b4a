-- `same_row` meets its contract: the bytes are compared pair by pair. Assumes nothing.
use Prim.Native.Nat.{ℕ, ◌+◌, ◌*◌, ◌-◌}
use mathlib.Core.Path.{◌≡◌, sym, ap, ◌∙◌}
use mathlib.Core.Bool.{true}
use native.Mathlib.Omega.{arith}
use lib.ListN.{length, take, drop}
use Rattle.std.specs.Slice.Iter.{iter_rest}
use Rattle.std.proofs.Common.{rules, tests}
use Rattle.std.proofs.lemmas.Iterator.{YieldsList-from_slice, YieldsList-from_zip}
use Rattle.std.proofs.lemmas.Iterator.Consumers.{fold_from_yields_List}
use Rattle.page.specs.Rows.{row_bytes}
use Rattle.page.specs.Stretch.{row_at}
use Rattle.page.proofs.Differing.{length-row_at, and_same, pairs_same}
use Rattle.page.proofs.stretch.same_row.Goals as goal

pub returns : goal.returns
unfolding row_at
returns c =
    let a = c.args in
    let r = a.row in
    let g = row_at a.glass.now r in
    let d = row_at a.drawn.now r in
    let n : r * row_bytes + row_bytes - r * row_bytes ≡ row_bytes = omega arith in
    let alike : length g ≡ length d = length-row_at a.glass.now r (omega (arith, c.requires.0, c.requires.2)) ∙ sym (length-row_at a.drawn.now r (omega (arith, c.requires.1, c.requires.2))) in
    let of_glass = YieldsList-from_slice g (ap iter_rest c.zip.ensures.first ∙ rw n at c.iter.ensures.rest) in
    let of_drawn = YieldsList-from_slice d (c.zip.ensures.second.0 ∙ ap (λ (m : ℕ). take m (drop (r * row_bytes) a.drawn.now)) n) in
    fold_from_yields_List _ and_same true c.fold.result c.fold.ensures.ran (YieldsList-from_zip of_glass of_drawn) (λ t p u q k. search (rules, tests)) ∙ pairs_same true g d alike
