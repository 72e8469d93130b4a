-- `choose` meets its contract: the goal is what the load's own cell holds. Assumes nothing.
use Prim.Native.Nat.{ℕ, ◌<◌}
use mathlib.Core.Path.{◌≡◌, ◌∙◌, subst}
use mathlib.Core.List.{List}
use Rattle.std.specs.Prelude.{Option, Some}
use native.Mathlib.Omega.{arith}
use Rattle.cells.specs.declared.problem.Shape.{Shape}
use Rattle.cells.specs.declared.outline.Joint.{Joint}
use Rattle.cells.specs.declared.outline.Rules.{Rules}
use Rattle.cells.specs.Outline.{joint_in, rules_in, best_in}
use Rattle.cells.specs.Work.{place_of, cells_from}
use Rattle.cells.specs.Stretch.{reach_of, reached}
use Rattle.cells.proofs.InRange.{looked-up}
use Rattle.engine.specs.declared.choice.Choice.{Choice}
use Rattle.engine.specs.Search.{choice_in}
use Rattle.engine.proofs.filled.Filled.choose.Goals as goal

-- what was looked up is used
module _ (sh : Shape) (o w : List ℕ) (k x c goal : ℕ) (d : Option Choice) where
  abbrev Chosen : Joint → Rules → Type 0
  Chosen t r = goal ≡ (best_in o r (reach_of sh w t c)).value → 0 < goal → d ≡ Some (choice_in sh o w t r c)

  used : (t : Joint) (r : Rules) → t ≡ joint_in sh o k x → r ≡ rules_in sh o x → goal ≡ cells_from w (place_of sh k x) c → Chosen t r
      → cells_from w (place_of sh k x) c ≡ reached sh o w k x c → 0 < reached sh o w k x c → d ≡ Some (choice_in sh o w (joint_in sh o k x) (rules_in sh o x) c)
  used t r et er eg h e pos =
      subst (λ t. Chosen t (rules_in sh o x)) et (subst (λ r. Chosen t r) er h) (eg ∙ e) (omega (arith, eg, e, pos))

pub chosen-requires : goal.chosen-requires
chosen-requires c =
    let n = c.requires in
    let f = looked-up _ c.args.self.now.outline.now c.args.self.now.fits c.args.k c.args.x n.0 n.1 _ _ c.joint_at-t.ensures c.rules_at-r.ensures in
    record { joint = (f.0, f.1); c_le_budget = n.3 }

pub returns : goal.returns
returns c =
    let s = c.args in record {
      right = used s.self.now.shape s.self.now.outline.now s.self.now.cells.now s.k s.x s.c _ _ _ _ c.joint_at-t.ensures c.rules_at-r.ensures c.cell-goal.ensures.0 c.chosen.ensures.right;
      bounds = c.chosen.ensures.bounds;
    }
