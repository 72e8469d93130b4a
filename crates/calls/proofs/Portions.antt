-- A portion on a planner that holds a state within the limits: what it passes, the count after it, and what it leaves. Assumes nothing.
use Prim.Native.Nat.{ℕ, zero, suc, min, ◌+◌, ◌≤◌, ◌<◌}
use mathlib.Core.Path.{◌≡◌, refl, sym, ap, subst, ◌∙◌}
use mathlib.Core.Bool.{Bool, true, false}
use mathlib.Core.List.{List, []}
use mathlib.Core.Logic.{◌⊎◌, inl, inr}
use native.Mathlib.Omega.{arith}
use borrow.Author.Tests.{lt-ltb, le-ltb, ltb-false, eq-eqb, ne_eqb, eqb-false}
use lib.Dec.{eqb, ltb, lit<}
use lib.ListN.{length}
use Rattle.lists.specs.Tests.{pick, every}
use Rattle.lines.specs.declared.Command.TheVariants.{Plan}
use Rattle.lines.specs.Grammar.{parse, fields, find_form}
use Rattle.lines.specs.Text.{bytes, same}
use Rattle.lines.specs.Answers.{refused, run_bytes}
use Rattle.tables.specs.Refusals as no
use Rattle.tables.specs.Limits.{between}
use Rattle.tables.proofs.Lawful.{inside}
use Rattle.tables.specs.declared.entry.Entry.{Entry}
use Rattle.meaning.specs.Best.{best_plan}
use Rattle.meaning.specs.Choice.{plan_entries}
use Rattle.meaning.specs.Cells.{cells_of, Holding}
use Rattle.runs.specs.Outcome.{Outcome, nothing, no_set, planned, found, is_nothing, range_of, outcome_in}
use Rattle.calls.specs.State.{State, StoredState, stored_state, state_of, keeps, Within}
use Rattle.calls.specs.Causes.{lowest}
use Rattle.calls.specs.Calls.{Call, Reply, cleared}
use Rattle.calls.specs.Demand2.{PlanCall}
use Rattle.calls.specs.Portions.{PortionCall, PortionDone, plan_call, most_portion, portion_causes, portion_number, open_cells, count_by, after_portion, Shows, Answers, Portioned, portion_refused, portioned_if, Portions}
use Rattle.calls.proofs.State.{state-stored, keeps-stored}
use Rattle.calls.proofs.Numbers.{passed, passed-not}
use Rattle.calls.proofs.Answers.{positive}
use Rattle.calls.proofs.Work.{clash}
use Rattle.calls.proofs.Plans.{outcome_reply, plan-answer}

-- ---- what a portion that no number refuses has
pub record Passes (s : State) (c : PortionCall) : Type 0 where
  pub free : c.place + run_bytes ≤ length c.output
  pub loads : 0 < length s.tables.loads
  pub least : 1 ≤ c.most
  pub most : c.most ≤ most_portion
  pub cells : cells_of s.tables ≤ length c.work

pub passes : (s : State) (c : PortionCall) → portion_number s c ≡ 0 → Passes s c
unfolding portion_number portion_causes
passes s c e =
    let t = s.tables in
    let a = passed no.unusable (ltb (length c.output) (c.place + run_bytes)) _ (lit< tt) e in
    let b = passed no.no_loads (eqb (length t.loads) 0) _ (lit< tt) a.1 in
    let d = passed-not no.out_of_range (between 1 most_portion c.most) _ (lit< tt) b.1 in
    let f = passed no.too_few_cells (ltb (length c.work) (cells_of t)) [] (lit< tt) d.1 in
    let n = inside 1 most_portion c.most d.0 in
    record {
      free = ltb-false (length c.output) (c.place + run_bytes) a.0;
      loads = positive (eqb-false (length t.loads) 0 b.0);
      least = n.0;
      most = n.1;
      cells = ltb-false (length c.work) (cells_of t) f.0;
    }

-- it is a plan that demand 3 speaks of
pub plan-line : parse (bytes "plan") ≡ Plan
unfolding parse fields find_form same every
plan-line = refl

pub plan-call : (s : State) (c : PortionCall) → Passes s c → PlanCall s.tables (plan_call c)
plan-call s c k = record { enough = record { line = plan-line; free = k.free; cells = k.cells }; loads = k.loads }

-- ---- the count after it
-- a lesser number
pub min-left : (a b : ℕ) → min a b ≤ a
min-left a b = omega arith

pub min-right : (a b : ℕ) → min a b ≤ b
min-right a b = omega arith

count-in : (s : State) → Within s → (c : PortionCall) (n : ℕ) → count_by n s c ≤ cells_of s.tables
count-in s h c zero = go (eqb (open_cells s) 0)
  where
    go : (b : Bool) → pick b 0 (s.filled + min c.most (open_cells s)) ≤ cells_of s.tables
    go true = omega arith
    go false = omega (arith, h.filled, min-right c.most (open_cells s))
count-in s h c (suc n) = h.filled

pub portion-within : (s : State) → Within s → (c : PortionCall) → Within (after_portion s c)
portion-within s h c = record { tables = h.tables; outcome = h.outcome; filled = count-in s h c (portion_number s c) }

-- ---- on a planner that holds the state
pub portions-stored : (s : State) → Within s → (c : PortionCall) (d : PortionDone) → Portions (stored_state s) c d → Portioned s c d
unfolding Portions
portions-stored s h c d y =
    subst (λ (x : State). Portioned x c d) (state-stored s h) (subst (λ (b : Bool). portioned_if b (stored_state s) c d) (keeps-stored s h) y)

-- and on any that keeps the limits, or breaks one
pub portions-kept : (p : StoredState) (c : PortionCall) (d : PortionDone) → keeps p ≡ true → Portioned (state_of p) c d → Portions p c d
unfolding Portions
portions-kept p c d e y = subst (λ (b : Bool). portioned_if b p c d) (sym e) y

pub portions-broken : (p : StoredState) (c : PortionCall) (d : PortionDone) → keeps p ≡ false → d ≡ portion_refused p c no.unusable → Portions p c d
unfolding Portions
portions-broken p c d e y = subst (λ (b : Bool). portioned_if b p c d) (sym e) y

-- ---- the number, test by test
module _ (s : State) (n room place cells : ℕ) where
  abbrev number : ℕ
  number = lowest (portion_causes s n room place cells)

  pub no_room : room < place + run_bytes → number ≡ no.unusable
  unfolding portion_causes lowest
  no_room l = rw (lt-ltb room (place + run_bytes) l)

  module _ (free : place + run_bytes ≤ room) where
    pub no-loads : length s.tables.loads ≡ 0 → number ≡ no.no_loads
    unfolding portion_causes lowest
    no-loads e = rw (le-ltb room (place + run_bytes) free, eq-eqb (length s.tables.loads) 0 e)

    module _ (some : length s.tables.loads ≡ 0 → ⊥) where
      pub out_of_range : between 1 most_portion n ≡ false → number ≡ no.out_of_range
      unfolding portion_causes lowest
      out_of_range e = rw (le-ltb room (place + run_bytes) free, ne_eqb (length s.tables.loads) 0 some, e)

      module _ (ranged : between 1 most_portion n ≡ true) where
        pub too_few : cells < cells_of s.tables → number ≡ no.too_few_cells
        unfolding portion_causes lowest
        too_few l = rw (le-ltb room (place + run_bytes) free, ne_eqb (length s.tables.loads) 0 some, ranged, lt-ltb cells (cells_of s.tables) l)

        pub unrefused : cells_of s.tables ≤ cells → number ≡ 0
        unfolding portion_causes lowest
        unrefused l = rw (le-ltb room (place + run_bytes) free, ne_eqb (length s.tables.loads) 0 some, ranged, le-ltb cells (cells_of s.tables) l)

-- ---- the answer, by the outcome that was read
pub answers_by : (s : State) (c : Call) → PlanCall s.tables c → (o : Outcome) → is_nothing o ≡ false → outcome_in (range_of s.tables) o ≡ true
    → (Holding s.tables c.work (cells_of s.tables) → o ≡ found (best_plan s.tables) (plan_entries s.tables))
    → (r : Reply) → r ≡ outcome_reply s.tables c o → Answers s c r
answers_by s c k o some inside right r is = record {
  formed = formed o some inside is;
  right = λ h. is ∙ ap (outcome_reply s.tables c) (right h) ∙ sym (plan-answer s c k);
}
  where
    formed : (o : Outcome) → is_nothing o ≡ false → outcome_in (range_of s.tables) o ≡ true → r ≡ outcome_reply s.tables c o
        → (r ≡ cleared s.tables c no.none_fits (refused no.none_fits)) ⊎ ((es : List Entry) × Shows s.tables c r es)
    formed nothing some inside is = absurd (clash some)
    formed no_set some inside is = inl is
    formed (planned es) some inside is = inr (es, record { inside = inside; shown = is })
