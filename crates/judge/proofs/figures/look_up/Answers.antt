-- `look_up` meets its contract: the list is filled from its front with the loads' steps. Assumes nothing.
use Prim.Native.Nat.{suc, ◌<◌}
use mathlib.Core.Path.{◌≡◌, refl, sym, ap, ◌∙◌}
use native.Mathlib.Nat.{not-suc-le-zero}
use native.Mathlib.Omega.{arith}
use borrow.Author.Count.{below_more}
use borrow.Author.Rules.{rules}
use lib.ListN.{get_or, set, length-set, length-take}
use lib.Seq.{get_or-set_same, get_or-set_other, get_or-take}
use Rattle.lists.proofs.Arrays.{of_map}
use Rattle.tables.specs.declared.rule.Sort.TheVariants as sort
use Rattle.tables.specs.Tables.{no_load}
use Rattle.tables.specs.Limits.{max_loads}
use Rattle.tables.specs.Stored.{book_of, tables_of, rules_of}
use Rattle.tables.proofs.Kept.{kept, few-loads}
use Rattle.judge.specs.Verdict.{proposed}
use Rattle.judge.specs.Figures.{step_of, no_step}
use Rattle.judge.proofs.figures.look_up.Invariants.{step_for}
use Rattle.judge.proofs.figures.look_up.Goals as goal

pub loop-i-init : goal.loop-i-init
loop-i-init c = (
  omega arith,
  few-loads max_loads c.args.t (search (rules, of_map)) (kept c.args.t c.requires.0),
  c.requires.1,
  record { whole = refl; each = λ j b. absurd (not-suc-le-zero b) },
)

pub step_of-requires : goal.step_of-requires
step_of-requires c =
    let k = kept c.args.t c.requires.0 in
    (k.rules sort.Load, k.rules sort.Row)

pub loop-i-preserved : goal.loop-i-preserved
loop-i-preserved c =
    let inv = c.loop-i.invariant in
    let t = c.args.t in
    let steps = c.loop-i.steps in
    let i = c.loop-i.i in (
      omega arith,
      inv.1,
      inv.2,
      record {
        whole = length-set steps i c.step_of.result ∙ inv.3.whole;
        each = below_more (λ j. get_or (set steps i c.step_of.result) j no_step ≡ step_for t c.args.run.now j) i
            (λ j b. get_or-set_other steps i j c.step_of.result no_step (λ q. absurd (omega arith)) ∙ inv.3.each j b)
            (get_or-set_same steps i c.step_of.result no_step (omega (arith, inv.3.whole)) ∙ c.step_of.ensures);
      },
    )

pub returns : goal.returns
unfolding tables_of book_of
returns c =
    let t = c.args.t in
    let steps = c.loop-i.steps in
    let k = kept t c.requires.0 in
    let inv = c.loop-i.invariant in
    record {
      lawful = k.lawful;
      end_stages = refl;
      count = omega (arith, length-take t.loads.count steps, k.counted, inv.3.whole);
      each = λ j b.
          let few : j < t.loads.count = omega (arith, length-take t.loads.count steps, inv.3.whole) in
          get_or-take t.loads.count steps j no_step few
          ∙ inv.3.each j (omega arith)
          ∙ ap (λ l. step_of (rules_of t.book.load_rules) (rules_of t.book.row_rules) l (proposed c.args.run.now (suc j)))
          (sym (get_or-take t.loads.count t.loads.items j no_load few));
    }
