-- The numbers of an outline are in range, and so is what is looked up in it. Assumes nothing.
use Prim.Native.Nat.{ℕ, ◌+◌, ◌-◌, ◌≤◌, ◌<◌}
use mathlib.Core.Path.{◌≡◌, sym, subst}
use mathlib.Core.Bool.{Bool, true, false, false≢true}
use mathlib.Core.List.{List}
use mathlib.Core.Logic.{◌⊎◌, inl, inr}
use native.Mathlib.Omega.{arith}
use lib.ListN.{length, get_or}
use Rattle.lists.specs.Tests.{pick}
use Rattle.meaning.specs.Forest.{after}
use Rattle.meaning.proofs.Rows.{after-above}
use Rattle.cells.specs.declared.problem.Problem.{Problem}
use Rattle.cells.specs.declared.problem.Shape.{Shape}
use Rattle.cells.specs.declared.outline.Joint.{Joint}
use Rattle.cells.specs.declared.outline.Rules.{Rules}
use Rattle.cells.specs.Problem.{loads_for, shape_of}
use Rattle.cells.specs.Outline.{child_in, sibling_in, load_rules_at, row_rules_at, counts_at, rule_in, of_row, rules_in, joint_in, JointFits, RuleFits, RulesFit, OutlineFits, Outlines}
use Rattle.cells.proofs.Tables.{loads-length}

module _ (p : Problem) (o : List ℕ) (h : Outlines p (shape_of p) o) where
  next_fits : (j q : ℕ) → after (loads_for p) j q ≤ p.tables.loads.count
  next_fits j q = go (after-above (loads_for p) q j)
    where
      go : (after (loads_for p) j q ≡ 0) ⊎ ((j < after (loads_for p) j q) × (after (loads_for p) j q ≤ length (loads_for p)))
          → after (loads_for p) j q ≤ p.tables.loads.count
      go (inl e) = omega arith
      go (inr l) = omega (arith, l.1, loads-length p.tables.loads (omega (arith, h.lawful.loads.full, h.lawful.sane.loads)))

  joint-fits : (k x : ℕ) → 0 < k → k ≤ (shape_of p).loads → JointFits (shape_of p) (joint_in (shape_of p) o k x)
  joint-fits k x l m = record { low = l; high = m; rest = go (of_row (shape_of p) x); power = (h.figures k l m).0; worth = (h.figures k l m).1 }
    where
      go : (t : Bool) → pick t (sibling_in o k) (child_in o k) ≤ (shape_of p).loads
      go true = rw (h.sibling k l m) (next_fits _ _)
      go false = rw (h.child k l m) (next_fits _ _)

  rule_fits : (j : ℕ) → j < p.tables.book.load_rules.count → RuleFits (shape_of p) false (rule_in o load_rules_at j)
  rule_fits j l = rw (h.rules.rule j l) (record {
    low = (h.lawful.rules.to j l).0;
    high = (h.lawful.rules.to j l).1;
    label = omega (arith, (h.lawful.rules.label j l).1);
    state = λ e. absurd (false≢true e);
  })

  row_fits : (j : ℕ) → j < p.tables.book.row_rules.count → RuleFits (shape_of p) true (rule_in o row_rules_at j)
  row_fits j l = rw (h.rows.rule j l) (record {
    low = (h.lawful.rows.to j l).0;
    high = (h.lawful.rows.to j l).1;
    label = omega (arith, (h.lawful.rows.label j l).1, h.lawful.sane.states);
    state = λ e. h.lawful.rows.label j l;
  })

  rules-fit : (x : ℕ) → RulesFit (shape_of p) o (of_row (shape_of p) x) (rules_in (shape_of p) o x)
  rules-fit x = go (of_row (shape_of p) x)
    where
      go : (t : Bool) → RulesFit (shape_of p) o t (pick t
          (record { at = row_rules_at; count = get_or o (counts_at + 1) 0; from = x - (shape_of p).states + 1 })
          (record { at = load_rules_at; count = get_or o counts_at 0; from = x + 1 }))
      go true = record {
        few = omega (arith, h.rows.count, h.lawful.rows.few);
        room = omega (arith, h.long);
        each = λ j l. row_fits j (omega (arith, h.rows.count));
      }
      go false = record {
        few = omega (arith, h.rules.count, h.lawful.rules.few);
        room = omega (arith, h.long);
        each = λ j l. rule_fits j (omega (arith, h.rules.count));
      }

pub outline-fits : (p : Problem) (sh : Shape) (o : List ℕ) → Outlines p sh o → OutlineFits sh o
outline-fits p sh o h =
    let g = subst (λ (y : Shape). Outlines p y o) h.shape h in
    subst (λ (y : Shape). OutlineFits y o) (sym h.shape) (record { long = h.long; joints = joint-fits p o g; rules = rules-fit p o g })

-- what is looked up in an outline in range is in range
pub looked-up : (sh : Shape) (o : List ℕ) → OutlineFits sh o → (k x : ℕ) → 0 < k → k ≤ sh.loads → (t : Joint) (r : Rules) → t ≡ joint_in sh o k x → r ≡ rules_in sh o x
    → JointFits sh t × RulesFit sh o t.branch r
looked-up sh o f k x low high t r et er = rw (et, er) (f.joints k x low high, f.rules x)
