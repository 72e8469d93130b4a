-- `take_line` meets its contract: the bytes up to the line feed go to the line as far as there is room. Assumes nothing.
use mathlib.Core.Path.{◌∙◌}
use Rattle.std.proofs.Common.{rules, tests}
use Rattle.std.proofs.lemmas.Iterator.{YieldsList-from_slice}
use Rattle.std.proofs.lemmas.Iterator.Search.{position_from_yields_List}
use Rattle.lines.specs.Text.{before}
use Rattle.lines.proofs.Before.{first-or-length, first-some, first-none}
use Rattle.lines.proofs.Taking.{is_feed, took-some, took-none}
use Rattle.lines.proofs.splitting.take_line.Goals as goal

pub returns-in-Some : goal.returns-in-Some
unfolding before
returns-in-Some c =
    let s = c.args.chunk.now in
    let p = position_from_yields_List is_feed _ _ c.position-end.result c.position-end.ensures.ran (YieldsList-from_slice _ c.iter.ensures.rest) (λ x b q k. search (rules, tests)) in
    took-some s c.args.line.now c.args.held (search rules) (c.unwrap_or.ensures ∙ first-or-length is_feed s c.position-end.result p) c.min-start.ensures c.min.ensures
    c.copy_from_slice.ensures.after c.in-Some.at (first-some is_feed s c.position-end.result p c.in-Some.at c.in-Some.is)

pub returns-in-None : goal.returns-in-None
unfolding before
returns-in-None c =
    let s = c.args.chunk.now in
    let p = position_from_yields_List is_feed _ _ c.position-end.result c.position-end.ensures.ran (YieldsList-from_slice _ c.iter.ensures.rest) (λ x b q k. search (rules, tests)) in
    took-none s c.args.line.now c.args.held (search rules) (c.unwrap_or.ensures ∙ first-or-length is_feed s c.position-end.result p) c.min-start.ensures c.min.ensures
    c.copy_from_slice.ensures.after (first-none is_feed s c.position-end.result p c.in-None.is)
