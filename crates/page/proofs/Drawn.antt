-- A drawing: what refuses it, test by test, its page, and what it leaves. Assumes nothing.
use Prim.Native.Nat.{ℕ, zero, suc, ◌+◌, ◌*◌, ◌≤◌, ◌<◌}
use mathlib.Core.Path.{◌≡◌, refl, sym, ap, ◌∙◌}
use mathlib.Core.Bool.{Bool, true, false, ◌||◌}
use mathlib.Core.List.{List, [], ◌++◌, append-nil}
use native.Mathlib.Omega.{arith}
use borrow.Author.Tests.{eq-eqb, ne_eqb, ltb-true, ltb-false, le-leb, lt-leb}
use lib.Dec.{leb, ltb}
use lib.ListN.{length, drop, replicate, drop_of_length-le}
use lib.Seq.{sets-eq}
use Rattle.lists.proofs.Bools.{and-false, or_left, or_right}
use Rattle.lines.specs.Answers.{Wrote}
use Rattle.tables.specs.declared.refusal.Refusal.{Refusal}
use Rattle.tables.specs.declared.refusal.Refusal.TheVariants.{Unusable}
use Rattle.tables.specs.Refusals as no
use Rattle.tables.specs.Refusals.{number_of}
use Rattle.tables.specs.Operations.{accepted}
use Rattle.tables.specs.Limits.{between}
use Rattle.tables.specs.declared.entry.Entry.{Entry}
use Rattle.meaning.specs.Sets.{worth, power}
use Rattle.meaning.specs.Choice.{shown_set}
use Rattle.runs.specs.Outcome.{no_set, planned, is_nothing, of_status}
use Rattle.calls.specs.State.{State, StoredState, state_of, keeps}
use Rattle.calls.specs.Rows.{is_load}
use Rattle.calls.specs.Causes.{lowest}
use Rattle.calls.proofs.Work.{clash}
use Rattle.planner.specs.declared.Planner.{Planner}
use Rattle.planner.specs.Planner.{held, state_in, Lawful}
use Rattle.planner.proofs.Commands.{tables-count}
use Rattle.page.specs.Rows.{page_bytes, row_bytes, load_row_count, blank, plan_row, no_plan_row, load_rows}
use Rattle.page.specs.Drawing.{page_of, refusal_of, drawn_of, drawing}
use Rattle.page.proofs.RowText.{rows-blank}

module _ (p : StoredState) (k n : ℕ) where
  pub no-page : (n ≡ page_bytes → ⊥) → no.not_a_page ≡ refusal_of p k n
  unfolding refusal_of lowest
  no-page d = rw (ne_eqb n page_bytes d)

  module _ (e : n ≡ page_bytes) where
    pub broken : keeps p ≡ false → no.unusable ≡ refusal_of p k n
    unfolding refusal_of lowest
    broken b = rw (eq-eqb n page_bytes e, b)

    module _ (h : keeps p ≡ true) where
      pub no-load : is_load (state_of p).tables k ≡ false → no.out_of_range ≡ refusal_of p k n
      unfolding refusal_of lowest
      no-load b = rw (eq-eqb n page_bytes e, h, b)

      pub no-plan : is_load (state_of p).tables k ≡ true → is_nothing (state_of p).outcome ≡ true → no.no_plan ≡ refusal_of p k n
      unfolding refusal_of lowest
      no-plan l b = rw (eq-eqb n page_bytes e, h, l, b)

      pub unrefused : is_load (state_of p).tables k ≡ true → is_nothing (state_of p).outcome ≡ false → 0 ≡ refusal_of p k n
      unfolding refusal_of lowest
      unrefused l b = rw (eq-eqb n page_bytes e, h, l, b)

-- the status of an outcome
pub status-nothing : (k : ℕ) (es : List Entry) → k ≡ 0 → is_nothing (of_status k es) ≡ true
status-nothing k es e = rw e

pub status-no-set : (k : ℕ) (es : List Entry) → k ≡ 1 → of_status k es ≡ no_set
status-no-set k es e = rw e

pub status-something : (k : ℕ) (es : List Entry) → (k ≡ 0 → ⊥) → is_nothing (of_status k es) ≡ false
status-something zero es d = absurd (d refl)
status-something (suc zero) es d = refl
status-something (suc (suc k)) es d = refl

-- the loads of a planner that keeps the limits
pub counted : (p : Planner) → Lawful p → p.tables.loads.count ≡ length (state_in p).tables.loads
counted p h = tables-count p.tables h.tables

-- the test of the load's number, as the code makes it
pub load-under : (k m : ℕ) → k < 1 → between 1 m k ≡ false
load-under k m l = rw (lt-leb 1 k l)

pub load-over : (k n m : ℕ) → n ≡ m → n < k → between 1 m k ≡ false
load-over k n m is l = rw (← is, lt-leb k n l) (and-false (leb 1 k))

pub load-there : (k n m : ℕ) → n ≡ m → 1 ≤ k → k ≤ n → between 1 m k ≡ true
load-there k n m is l h = rw (← is, le-leb 1 k l, le-leb k n h)

-- ---- the page
-- after refusal 9
pub page-none : (s : State) (k : ℕ) → 1 ≤ k → s.outcome ≡ no_set → no_plan_row ++ replicate (load_row_count * row_bytes) blank ≡ page_of s k
unfolding page_of
page-none s k l e = rw (e, rows-blank (shown_set []) k load_row_count l)

-- of a plan whose set is σ
pub page-plan : (s : State) (k : ℕ) (es : List Entry) (σ : ℕ → ℕ) (v w : ℕ) → s.outcome ≡ planned es → σ ≡ shown_set es → v ≡ worth s.tables σ → w ≡ power s.tables σ
    → plan_row v w ++ load_rows s.tables.loads σ k load_row_count ≡ page_of s k
unfolding page_of
page-plan s k es σ v w e q a b = rw (e, a, b, q)

-- written on a whole page
pub wrote-whole : {l k : List ℕ} {j : ℕ} {s : List ℕ} → length s ≡ length l → Wrote l k 0 j s → k ≡ s
wrote-whole {l} {k} {j} {s} e w =
    let past : drop (0 + length s) l ≡ [] = drop_of_length-le l {i = 0 + length s} (omega (arith, e)) in
    w.list ∙ sets-eq s l 0 (omega (arith, e)) ∙ rw past (append-nil s)

-- ---- the drawing
untouched : {A : Type 0} (new old : A) (r : Refusal) → accepted (number_of r) new old ≡ old
untouched new old Unusable = refl
untouched new old r = refl

module _ (p : StoredState) (k : ℕ) (page : List ℕ) where
  pub refused-drawing : (r : Refusal) → number_of r ≡ refusal_of p k (length page) → drawn_of (number_of r) page ≡ drawing p k page
  unfolding drawing
  refused-drawing r e = rw (← e) (ap (drawn_of (number_of r)) (sym (untouched _ page r)))

  pub done-drawing : {drawn : List ℕ} → 0 ≡ refusal_of p k (length page) → drawn ≡ page_of (state_of p) k → drawn_of 0 drawn ≡ drawing p k page
  unfolding drawing
  done-drawing e is = rw (← e, is)

-- the two ends of a drawing
pub ruleset drawings = (refused-drawing, done-drawing)

-- where a drawing is refused, by its tests, and where not
pub ruleset refusals = (no-page, broken, no-load, no-plan, unrefused, status-nothing, status-something, load-under, load-over, load-there, counted)
