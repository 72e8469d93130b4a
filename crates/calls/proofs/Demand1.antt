-- Demand 1: every call gives its answer or the one refusal that applies, and leaves what the paper says. Assumes nothing.
use Prim.Native.Nat.{ℕ, zero, suc, ◌+◌, ◌≤◌, ◌<◌}
use mathlib.Core.Path.{◌≡◌, refl, sym, ap, subst, ◌∙◌}
use mathlib.Core.Bool.{Bool, true, false}
use mathlib.Core.List.{List, [], ◌∷◌, ◌++◌, append_assoc}
use mathlib.Core.Logic.{◌⊎◌, inl, inr, ⊎_elim}
use native.Mathlib.Omega.{arith}
use borrow.Author.Tests.{eqb-true, eqb-false, ltb-false}
use lib.Dec.{eqb, lit≤}
use lib.ListN.{length, take, drop, length-take, length-append}
use lib.Seq.{sets, sets-eq, take_at, drop_at}
use Rattle.lines.specs.Answers.{refused}
use Rattle.tables.specs.Refusals as no
use Rattle.tables.specs.Stored.{stored}
use Rattle.calls.specs.State.{State, StoredState, stored_state, state_of, keeps, Within, Sized}
use Rattle.calls.specs.Rows.{Cause, ◌if◌, Row, bytes_of}
use Rattle.calls.specs.Causes.{lowest, all_causes, refusal}
use Rattle.calls.specs.Printing.{text}
use Rattle.calls.specs.Calls.{Call, Reply, written_by, row_for, number_for, reply, answer, turned_away, handled, called_if, called}
use Rattle.calls.specs.Demand1.{Demand1}
use Rattle.calls.proofs.State.{state-stored, keeps-stored, keeps-kept, kept-within, kept-stored}
use Rattle.calls.proofs.Rows.{Right, line-right}
use Rattle.calls.proofs.Refusals.{causes-lowest, refusal-most, after-number, refused-tables, still-tables, shown-keeps, refused-keeps}
use Rattle.calls.proofs.Answers.{called-stored, answer_at}
use Rattle.calls.proofs.Work.{clash, unsearched, row-zeroed}
use Rattle.calls.proofs.Keeps.{answer-fits}
use Rattle.calls.proofs.Printed.{written_is}

-- ---- a planner that breaks a limit
broken : (p : StoredState) (c : Call) → keeps p ≡ false → Demand1 p c (record { state = p; reply = turned_away c })
unfolding lowest
broken p c e =
    record {
      number = rw e (causes-lowest (line-right (state_of p) (length c.work) c.line) true (length c.output) c.place);
      most = lit≤ tt;
      tables = λ _. refl;
      state = λ _ _. refl;
      still = λ _. refl;
      shows = λ _. refl;
      one = λ _. refl;
      prints = λ h. absurd (omega (arith, h));
      fits = omega arith;
      before = refl;
      behind = refl;
      cleared = λ e. absurd (clash (sym e));
      unchanged = λ _. refl;
    }

-- ---- bytes stored at a place that has room for them
module _ (l bs : List ℕ) (p : ℕ) (h : p + length bs ≤ length l) where
  head : length (take p l) ≡ p
  head = omega (arith, length-take p l)

  pub stored-before : take p (sets l p bs) ≡ take p l
  stored-before = ap (take p) (sets-eq bs l p h ∙ append_assoc (take p l) bs (drop (p + length bs) l)) ∙ take_at (take p l) (bs ++ drop (p + length bs) l) p head

  pub stored-behind : drop (p + length bs) (sets l p bs) ≡ drop (p + length bs) l
  stored-behind =
      let size : length (take p l ++ bs) ≡ p + length bs = omega (arith, length-append (take p l) bs, head) in
      ap (drop (p + length bs)) (sets-eq bs l p h) ∙ drop_at (take p l ++ bs) (drop (p + length bs) l) (p + length bs) size

-- ---- one that keeps them
not-one : (b : Bool) (cs : List Cause) → (lowest ((no.unusable if b) ∷ cs) ≡ no.unusable → ⊥) → b ≡ false
unfolding lowest
not-one true cs d = absurd (d refl)
not-one false cs d = refl

refusal-text : (n : ℕ) (r : Row) → no.unusable < n → text n r ≡ refused n
unfolding text
refusal-text zero r h = absurd (omega arith)
refusal-text (suc zero) r h = absurd (omega arith)
refusal-text (suc (suc n)) r h = refl

module _ (s : State) (h : Within s) (c : Call) where
  abbrev r : Row
  r = row_for s c

  abbrev n : ℕ
  n = number_for s c

  abbrev bs : List ℕ
  bs = text n r

  x : Right s (length c.work) r
  x = line-right s (length c.work) c.line

  one : n ≡ no.unusable → answer s c ≡ turned_away c
  unfolding text
  one e = answer_at s c no.unusable r e refl ∙ ap (reply c no.unusable []) (unsearched no.unusable r c.work refl)

  -- a call that is not turned away has room for its answer
  room : (n ≡ no.unusable → ⊥) → c.place + length bs ≤ length c.output
  unfolding refusal all_causes answer
  room d = omega (arith, ltb-false (length c.output) (c.place + bytes_of r) (not-one _ _ d), answer-fits s h c)

  one-or-room : (n ≡ no.unusable) ⊎ (c.place + length bs ≤ length c.output)
  one-or-room = go (eqb n no.unusable) refl
    where
      go : (b : Bool) → eqb n no.unusable ≡ b → (n ≡ no.unusable) ⊎ (c.place + length bs ≤ length c.output)
      go true e = inl (eqb-true n no.unusable e)
      go false e = inr (room (eqb-false n no.unusable e))

  -- what it wrote is its text
  pub wrote : written_by c (answer s c) ≡ text (number_for s c) (row_for s c)
  unfolding answer text
  wrote = ⊎_elim nothing (written_is c.output bs c.place) one-or-room
    where
      nothing : n ≡ no.unusable → written_by c (answer s c) ≡ text n r
      nothing e = subst (λ (b : List ℕ). take (length b) (drop c.place (sets c.output c.place b)) ≡ b) (sym (ap (λ (i : ℕ). text i r) e)) refl

  held : Demand1 (stored_state s) c (handled s c)
  unfolding answer refusal lowest
  held =
      record {
        number = rw (keeps-stored s h, state-stored s h) (causes-lowest x false (length c.output) c.place);
        most = refusal-most x (length c.output) c.place;
        tables = λ l. ap stored (refused-tables s c l);
        state = λ l e. ap stored_state (refused-keeps s c l e);
        still = λ e. ap (λ (x : State). stored x.tables) (after-number s c) ∙ ap stored (still-tables s n r (rw (state-stored s h) at e));
        shows = λ e. ap stored_state (shown-keeps s c (rw (state-stored s h) at e));
        one = one;
        prints = λ l. written_is c.output bs c.place (room (λ e. absurd (omega (arith, l, e)))) ∙ refusal-text n r l;
        fits = rw (state-stored s h) (answer-fits s h c);
        before = ⊎_elim (λ e. ap (λ (r : Reply). take c.place r.output) (one e)) (stored-before c.output bs c.place) one-or-room;
        behind = ⊎_elim
            (λ e. subst (λ (r : Reply). drop (c.place + r.count) r.output ≡ drop (c.place + r.count) c.output) (sym (one e)) refl)
            (stored-behind c.output bs c.place) one-or-room;
        cleared = λ e. rw (state-stored s h) (row-zeroed n r c.work e);
        unchanged = unsearched n r c.work;
      }

pub demand1 : {n : ℕ} (p : StoredState) → Sized n p → (c : Call) → Demand1 p c (called p c)
unfolding called
demand1 p len c = go (keeps p) refl
  where
    go : (b : Bool) → keeps p ≡ b → Demand1 p c (called p c)
    go false e = subst (λ (b : Bool). Demand1 p c (called_if b p c)) (sym e) (broken p c e)
    go true e =
        let h = keeps-kept p len e in
        let s = state_of p in
        subst (λ (x : StoredState). Demand1 x c (called x c)) (sym (kept-stored p h)) (subst (Demand1 (stored_state s) c) (sym (called-stored s (kept-within p h) c)) (held s (kept-within p h) c))
