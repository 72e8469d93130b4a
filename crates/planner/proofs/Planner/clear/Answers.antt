-- `Planner::clear` meets its contract. Assumes nothing.
use Prim.Native.Nat.{ℕ}
use mathlib.Core.Path.{sym, ap, ◌∙◌}
use Rattle.std.specs.Prelude.{Ok}
use Rattle.tables.specs.Tables.{fresh}
use Rattle.tables.specs.Stored.{stored}
use Rattle.calls.specs.Rows.{changing}
use Rattle.calls.specs.Causes.{lowest}
use Rattle.calls.proofs.State.{places}
use Rattle.planner.specs.Changes.{told_by}
use Rattle.planner.proofs.Planner.clear.Goals as goal

pub returns : goal.returns
unfolding told_by changing lowest
returns c = ap Ok (c.fresh.ensures ∙ ap (λ (n : ℕ). stored (fresh n)) (sym (places c.args.self.tables c.requires.tables)))
