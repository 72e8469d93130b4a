-- `zero_from` meets its contract. Assumes nothing.
use mathlib.Core.Path.{◌≡◌, ◌∙◌}
use lib.ListN.{length}
use Rattle.std.proofs.Common.{rules, tests, ℕ, eqb}
use Rattle.std.proofs.lemmas.Iterator.{YieldsList-from_slice}
use Rattle.std.proofs.lemmas.List.{take_rest}
use Rattle.lists.proofs.Arrays.{drop-held}
use Rattle.lists.proofs.Iterating.{every-from_fold}
use Rattle.tables.specs.Limits.{max_loads}
use Rattle.runs.proofs.run.zero_from.Goals as goal

pub returns : goal.returns
returns c =
    let a = c.args in
    let long : length a.column.now ≡ max_loads = search rules in
    let rest = take_rest {X = ℕ} a.column.now c.min.result in
    let part = (rw long at rest) ∙ drop-held a.column.now a.n c.min.result (rw long c.min.ensures) in
    every-from_fold (λ x. eqb x 0) _ c.fold.result c.fold.ensures.ran (YieldsList-from_slice _ (c.iter.ensures.rest ∙ part)) (λ b x r q k. search (rules, tests))
