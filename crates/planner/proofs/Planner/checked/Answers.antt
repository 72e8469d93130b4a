-- `Planner::checked` meets its contract. Assumes nothing.
use Rattle.std.specs.Prelude.{ℕ, Option, None, Some, ok_or}
use mathlib.Core.Path.{◌≡◌, refl, sym, ◌∙◌}
use lib.ListN.{length}
use lib.Dec.{lit<}
use Rattle.tables.specs.declared.refusal.Refusal.TheVariants.{NoLoads, OutOfRange, NotAllowed}
use Rattle.tables.specs.Limits.{max_loads}
use Rattle.marks.specs.Sets.{mark_in}
use Rattle.marks.specs.declared.LoadSet.{LoadSet}
use Rattle.lines.specs.declared.Command.TheVariants.{Check}
use Rattle.tables.specs.Stored.{tables_of}
use Rattle.meaning.specs.Best.{best_check}
use Rattle.meaning.specs.Choice.{check_entries}
use Rattle.runs.specs.declared.run.Run.{Run}
use Rattle.runs.specs.Outcome.{found, stored_outcome, stored_found}
use Rattle.calls.specs.Rows.{Row, row}
use Rattle.calls.proofs.Answers.{positive}
use Rattle.planner.specs.declared.Planner.{Planner}
use Rattle.planner.specs.Planner.{state_in, Lawful}
use Rattle.planner.specs.Decided.{allowed, decision, decided}
use Rattle.planner.proofs.Commands.{load-count}
use Rattle.planner.proofs.Searching.{none-found, some-found, check-no-loads, check-out-of-range, check-not-allowed, check-accepted, kept, refuses, allows}
use Rattle.planner.proofs.Planner.checked.Goals as goal

abbrev check_row : Planner → LoadSet → ℕ → Row
check_row p σ n = row (state_in p) (Check σ n)

-- there are loads
some-loads : (p : Planner) → Lawful p → (p.tables.loads.count ≡ 0 → ⊥) → length (tables_of p.tables).loads ≡ 0 → ⊥
some-loads p h d z = d (load-count p h ∙ z)

pub returns-then-tables-eq0 : goal.returns-then-tables-eq0
returns-then-tables-eq0 c =
    let p = c.args.self in
    refuses p c.requires (check_row p c.args.set c.args.count) _ NoLoads (lit< tt) refl refl
    (check-no-loads (state_in p) c.args.set c.args.count (sym (load-count p c.requires) ∙ c.if-tables-eq0.true))

pub returns-then-count-tables : goal.returns-then-count-tables
returns-then-count-tables c =
    let p = c.args.self in
    refuses p c.requires (check_row p c.args.set c.args.count) _ OutOfRange (lit< tt) refl refl
    (check-out-of-range (state_in p) c.args.set c.args.count (some-loads p c.requires c.if-tables-eq0.false) (λ q. c.if-count-tables.true (q ∙ sym (load-count p c.requires))))

pub check-requires : goal.check-requires
check-requires c =
    record { t_value = kept c.args.self.tables c.requires.tables; count_nonzero = positive c.if-tables-eq0.false }

-- by what was found
module _ (p : Planner) (h : Lawful p) (σ : LoadSet) (n : ℕ) (some : length (tables_of p.tables).loads ≡ 0 → ⊥) (each : n ≡ length (tables_of p.tables).loads) where
  answered : (f : Option Run) → stored_found f ≡ stored_outcome max_loads (found (best_check (tables_of p.tables) (mark_in σ)) (check_entries (tables_of p.tables) (mark_in σ)))
      → decision (allowed p (ok_or f NotAllowed)) ≡ decided (state_in p) 0 (check_row p σ n)
  answered None is =
      refuses p h (check_row p σ n) _ NotAllowed (lit< tt) refl refl (check-not-allowed (state_in p) σ n some each (none-found _ _ is))
  answered (Some x) is =
      let f = some-found _ _ is in
      allows p h σ n _ (check-accepted (state_in p) σ n some each f.0) f.1

pub returns : goal.returns
returns c =
    let p = c.args.self in
    rw c.ok_or.ensures.value
    (answered p c.requires c.args.set c.args.count (some-loads p c.requires c.if-tables-eq0.false) (c.if-count-tables.false ∙ load-count p c.requires) _ c.check.ensures)
