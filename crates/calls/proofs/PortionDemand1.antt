-- Demand 1 of portions: each gives one of the refusals 1, 4, 5 and 8 exactly in its case, or fills cells, or gives the answer; and leaves what the paper
-- says. Assumes nothing.
use Prim.Native.Nat.{ℕ, zero, suc, min, ◌+◌, ◌-◌, ◌≤◌, ◌<◌}
use mathlib.Core.Path.{◌≡◌, refl, sym, ap, subst, ◌∙◌}
use mathlib.Core.Bool.{Bool, true, false}
use mathlib.Core.List.{List}
use mathlib.Core.Logic.{◌⊎◌, inl, inr, ⊎_elim}
use native.Mathlib.Omega.{arith}
use native.Mathlib.Nat.{eq-zero-or-pos}
use lib.Dec.{lit≤}
use lib.ListN.{length, take, drop, replicate, length-replicate}
use lib.Seq.{drop_at, drop-drop}
use Rattle.lines.specs.Answers.{refused, run_bytes}
use Rattle.lines.proofs.Answers.{refused-fits}
use Rattle.tables.specs.Refusals as no
use Rattle.tables.specs.declared.entry.Entry.{Entry}
use Rattle.meaning.specs.Cells.{cells_of}
use Rattle.runs.proofs.Stored.{lines-in}
use Rattle.runs.specs.Outcome.{range_of}
use Rattle.calls.specs.State.{State, StoredState, stored_state, state_of, keeps, Within, Kept, Sized}
use Rattle.calls.specs.Rows.{plan_text}
use Rattle.calls.specs.Causes.{lowest, Lowest}
use Rattle.calls.specs.Printing.{zeroed, has_outcome}
use Rattle.calls.specs.Calls.{Reply, cleared}
use Rattle.calls.specs.Portions.{PortionCall, PortionDone, plan_call, portion_causes, portion_number, open_cells, portion_fills, count_by, with_filled, silent, Fills, Shows, Portioned, portion_refused, portioned_if, Portions}
use Rattle.calls.specs.Demand1.{portion_causes_of, portion_refusal, PortionDemand1}
use Rattle.calls.proofs.State.{keeps-kept, kept-within, kept-stored}
use Rattle.calls.proofs.Numbers.{Ascending, rising, lowest-given, lowest-least}
use Rattle.calls.proofs.Fits.{lines_fit}
use Rattle.calls.proofs.Demand1.{stored-before, stored-behind}
use Rattle.calls.proofs.Portions.{passes, min-left, min-right}

-- the lowest number that applies is given, each exactly in its case
in_order : (p : StoredState) (c : PortionCall) → Ascending 1 (portion_causes_of p c)
unfolding portion_causes
in_order p c = (lit≤ tt, (lit≤ tt, (lit≤ tt, (lit≤ tt, (lit≤ tt, lit≤ tt)))))

exactly : (p : StoredState) (c : PortionCall) → Lowest (portion_causes_of p c) (portion_refusal p c)
exactly p c = record { given = lowest-given (portion_causes_of p c); least = lowest-least 1 (portion_causes_of p c) (rising 1 (portion_causes_of p c) (in_order p c)) }

-- ---- refused: everything is left as it was
refused-right : (p : StoredState) (c : PortionCall) (n : ℕ) → portion_refusal p c ≡ n → 0 < n → PortionDemand1 p c (portion_refused p c n)
refused-right p c n e l = record {
  lowest = exactly p c;
  refused = λ _. ap (portion_refused p c) (sym e);
  passed = λ z. absurd (omega (arith, e, z, l));
  tables = refl;
  outcome = refl;
  most = omega arith;
  below = λ _. refl;
  above = λ _. refl;
  rest = refl;
  silent = λ _. (refl, refl);
  fits = omega arith;
  before = refl;
  behind = refl;
}

broken : (p : StoredState) (c : PortionCall) → keeps p ≡ false → portion_refusal p c ≡ no.unusable
unfolding lowest
broken p c e = rw e

kept-number : (p : StoredState) (c : PortionCall) → keeps p ≡ true → portion_refusal p c ≡ portion_number (state_of p) c
unfolding lowest portion_number
kept-number p c e = rw e

-- ---- on a planner that keeps the limits
-- behind the cells of a plan the answer changes nothing
zeroed_rest : (n : ℕ) (w : List ℕ) → drop n (zeroed n w) ≡ drop n w
unfolding zeroed
zeroed_rest n w = drop_at (replicate n 0) (drop n w) n (length-replicate {A = ℕ} n 0)

-- what is the same from a place on is the same from a later place on
later : (m n : ℕ) (v w : List ℕ) → m ≤ n → drop m v ≡ drop m w → drop n v ≡ drop n w
later m n v w l e =
    let a : m + (n - m) ≡ n = omega arith in
    subst (λ (k : ℕ). drop k v ≡ drop k w) a (sym (drop-drop (n - m) m v) ∙ ap (drop (n - m)) e ∙ drop-drop (n - m) m w)

module _ {n : ℕ} (p : StoredState) (k : Kept n p) (c : PortionCall) (d : PortionDone) (e : keeps p ≡ true) (y : Portioned (state_of p) c d) where
  abbrev s : State
  s = state_of p

  h : Within s
  h = kept-within p k

  same-state : (m : ℕ) → portion_number s c ≡ m → d.state ≡ stored_state (with_filled s (count_by m s c))
  same-state m q = y.state ∙ ap (λ (m : ℕ). stored_state (with_filled s (count_by m s c))) q

  tables : d.state.tables ≡ p.tables
  tables = ap (λ (x : StoredState). x.tables) y.state ∙ sym (ap (λ (x : StoredState). x.tables) (kept-stored p k))

  outcome : d.state.outcome ≡ p.outcome
  outcome = ap (λ (x : StoredState). x.outcome) y.state ∙ sym (ap (λ (x : StoredState). x.outcome) (kept-stored p k))

  turned : (m : ℕ) → portion_number s c ≡ suc m → d ≡ portion_refused p c (suc m)
  turned m q =
      let a : d.state ≡ p = same-state (suc m) q ∙ sym (kept-stored p k) in
      let b : d.filled ≡ 0 = y.filled ∙ ap (λ (i : ℕ). portion_fills i s c) q in
      let f : d.reply ≡ silent c (suc m) c.work = y.refusal (rw q (omega arith)) ∙ ap (λ (i : ℕ). silent c i c.work) q in
      λ i. record { state = a i; filled = b i; reply = f i }

  module _ (z : portion_number s c ≡ 0) where
    filled : d.filled ≡ min c.most (open_cells s)
    filled = y.filled ∙ ap (λ (i : ℕ). portion_fills i s c) z

    none-refused : portion_refusal p c ≡ 0
    none-refused = kept-number p c e ∙ z

    -- cells were filled
    module _ (o : 0 < open_cells s) where
      f : Fills s.tables c s.filled (s.filled + d.filled) d.reply
      f = y.fills z o

      filled-right : PortionDemand1 p c d
      filled-right = record {
        lowest = exactly p c;
        refused = λ l. absurd (omega (arith, none-refused, l));
        passed = λ _. ap (λ (r : Reply). has_outcome r.number) f.silence;
        tables = tables;
        outcome = outcome;
        most = omega (arith, filled, min-left c.most (open_cells s));
        below = λ _. f.below;
        above = λ _. f.above;
        rest = later (s.filled + d.filled) (cells_of s.tables) d.reply.work c.work (omega (arith, filled, min-right c.most (open_cells s), h.filled)) f.above;
        silent = λ _. (ap (λ (r : Reply). r.count) f.silence, ap (λ (r : Reply). r.output) f.silence);
        fits = rw (ap (λ (r : Reply). r.count) f.silence) (omega arith);
        before = ap (λ (r : Reply). take c.place r.output) f.silence;
        behind = ap (λ (r : Reply). drop (c.place + d.reply.count) r.output) f.silence;
      }

    -- none was open
    module _ (o : open_cells s ≡ 0) where
      none_filled : d.filled ≡ 0
      none_filled = omega (arith, filled, min-right c.most (open_cells s), o)

      -- an answer of so many bytes
      wrote_right : (m : ℕ) (bs : List ℕ) → has_outcome m ≡ true → length bs ≤ run_bytes → d.reply ≡ cleared s.tables (plan_call c) m bs → PortionDemand1 p c d
      wrote_right m bs is few q =
          let room = (passes s c z).free in
          record {
            lowest = exactly p c;
            refused = λ l. absurd (omega (arith, none-refused, l));
            passed = λ _. ap (λ (r : Reply). has_outcome r.number) q ∙ is;
            tables = tables;
            outcome = outcome;
            most = omega (arith, none_filled);
            below = λ l. absurd (omega (arith, none_filled, l));
            above = λ l. absurd (omega (arith, none_filled, l));
            rest = ap (λ (r : Reply). drop (cells_of s.tables) r.work) q ∙ zeroed_rest (cells_of s.tables) c.work;
            silent = λ l. absurd (omega (arith, none_filled, l));
            fits = rw (ap (λ (r : Reply). r.count) q) few;
            before = ap (λ (r : Reply). take c.place r.output) q ∙ stored-before c.output bs c.place (omega (arith, room, few));
            behind = subst (λ (r : Reply). drop (c.place + r.count) r.output ≡ drop (c.place + r.count) c.output) (sym q) (stored-behind c.output bs c.place (omega (arith, room, few)));
          }

      answer-right : PortionDemand1 p c d
      unfolding plan_text
      answer-right = go (y.answers z o).formed
        where
          go : (d.reply ≡ cleared s.tables (plan_call c) no.none_fits (refused no.none_fits)) ⊎ ((es : List Entry) × Shows s.tables (plan_call c) d.reply es) → PortionDemand1 p c d
          go (inl q) = wrote_right no.none_fits (refused no.none_fits) refl (omega (arith, refused-fits no.none_fits (lit≤ tt))) q
          go (inr x) = wrote_right 0 (plan_text s.tables x.0) refl (lines_fit s.tables h.tables x.0 (lines-in (range_of s.tables) x.0 x.1.inside)) x.1.shown

  held : PortionDemand1 p c d
  held = go (portion_number s c) refl
    where
      go : (m : ℕ) → portion_number s c ≡ m → PortionDemand1 p c d
      go zero z = ⊎_elim (answer-right z) (filled-right z) (eq-zero-or-pos (open_cells s))
      go (suc m) z = subst (PortionDemand1 p c) (sym (turned m z)) (refused-right p c (suc m) (kept-number p c e ∙ z) (omega arith))

pub portion-demand1 : {n : ℕ} (p : StoredState) → Sized n p → (c : PortionCall) (d : PortionDone) → Portions p c d → PortionDemand1 p c d
unfolding Portions
portion-demand1 p len c d y = go (keeps p) refl y
  where
    go : (b : Bool) → keeps p ≡ b → portioned_if b p c d → PortionDemand1 p c d
    go true e y = held p (keeps-kept p len e) c d e y
    go false e y = subst (PortionDemand1 p c) (sym y) (refused-right p c no.unusable (broken p c e) (lit≤ tt))
