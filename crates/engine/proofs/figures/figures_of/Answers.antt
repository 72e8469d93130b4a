-- `figures_of` meets its contract: what was added and what is still to come is the whole sum. Assumes nothing.
use Prim.Native.Nat.{suc}
use mathlib.Core.Path.{◌≡◌, ap, ap₂, ◌∙◌}
use native.Mathlib.Omega.{arith}
use native.Mathlib.Numerals.{add-one}
use borrow.Author.Rules.{rules}
use lib.ListN.{length, get_or, take}
use lib.Seq.{length-take-le}
use Rattle.lists.specs.Argmax.{guard}
use Rattle.lists.proofs.Arrays.{of_map}
use Rattle.marks.specs.Sets.{has_load, mark_in}
use Rattle.tables.specs.Limits.{max_loads}
use Rattle.tables.specs.Tables.{no_load}
use Rattle.meaning.specs.Sets.{counted}
use Rattle.engine.specs.Figures.{power_in, worth_in}
use Rattle.engine.proofs.Sums.{added_none, added_more, added-all}
use Rattle.engine.proofs.figures.figures_of.Goals as goal

pub loop-i-init : goal.loop-i-init
loop-i-init c =
    let ls = c.args.loads in
    let full : length ls.items ≡ max_loads = search (rules, of_map) in
    (omega (arith, length-take-le ls.count ls.items (omega arith)), omega arith, omega arith, added_none _ _, added_none _ _)

pub loop-i-preserved : goal.loop-i-preserved
loop-i-preserved c =
    let l = c.loop-i in
    let load = get_or (take c.args.loads.count c.args.loads.items) l.i no_load in
    let on : guard c.has-on.result 1 ≡ mark_in c.args.set (suc l.i) =
    ap (λ t. guard t 1) c.has-on.ensures ∙ ap (λ k. guard (has_load c.args.set k) 1) (add-one l.i) in (
      l.invariant.0,
      omega (arith, c.counted_if-power.ensures.1),
      omega (arith, c.counted_if-worth.ensures.1),
      added_more (power_in (mark_in c.args.set)) _ l.power l.i _ (omega arith) l.invariant.3 (c.counted_if-power.ensures.0 ∙ ap (λ m. counted m load.power) on),
      added_more (worth_in (mark_in c.args.set)) _ l.worth l.i _ (omega arith) l.invariant.4 (c.counted_if-worth.ensures.0 ∙ ap (λ m. counted m load.worth) on),
    )

pub returns : goal.returns
returns c =
    let l = c.loop-i in
    ap₂ (λ p w. record { power = p; worth = w })
    (added-all (power_in (mark_in c.args.set)) _ l.power l.i (omega arith) l.invariant.3)
    (added-all (worth_in (mark_in c.args.set)) _ l.worth l.i (omega arith) l.invariant.4)
