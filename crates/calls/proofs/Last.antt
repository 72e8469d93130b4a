-- The outcome after every list of calls, and what `last` shows of it. Assumes nothing.
use Prim.Native.Nat.{ℕ, zero, suc, ◌+◌, ◌<◌}
use mathlib.Core.Path.{◌≡◌, refl, sym, ap, ap₂, subst, ◌∙◌}
use mathlib.Core.Bool.{Bool, true, false, ◌&&◌}
use mathlib.Core.List.{List, [], ◌∷◌}
use native.Mathlib.Omega.{arith}
use borrow.Author.Tests.{eqb-true, eqb-false, ne_eqb}
use lib.Dec.{eqb, ltb, lit<}
use lib.ListN.{length}
use Rattle.lists.specs.Tests.{pick}
use Rattle.lines.specs.declared.SaveForm.{SaveForm}
use Rattle.lines.specs.declared.Command.{Command}
use Rattle.lines.specs.declared.Command.TheVariants as line
use Rattle.lines.specs.Text.{same}
use Rattle.lines.specs.Grammar.{line_command, line_of}
use Rattle.lines.specs.Written.{parted}
use Rattle.lines.specs.Saved.{saved, changes_text}
use Rattle.lines.specs.Answers.{ok, refused, plan_line, need_line}
use Rattle.lines.proofs.Sizes.{numbers-short}
use Rattle.tables.specs.Refusals as no
use Rattle.tables.specs.Tables.{Tables}
use Rattle.meaning.specs.Best.{best_plan}
use Rattle.meaning.specs.Choice.{plan_entries}
use Rattle.meaning.specs.Cells.{cells_of}
use Rattle.meaning.specs.Need.{none_fits}
use Rattle.runs.specs.Outcome.{Outcome, nothing, no_set, planned, found, is_nothing, is_no_set, entries_of}
use Rattle.runs.proofs.Stored.{found_none, found_some}
use Rattle.calls.specs.State.{State, StoredState, stored_state, state_of, Within, Kept}
use Rattle.calls.specs.Rows.{◌if◌, Row, plan_text, showing_plan, shown_text, row, line_row, bytes_of, causes_of, is_change, is_show}
use Rattle.calls.specs.Causes.{lowest, all_causes, refusal}
use Rattle.calls.specs.Effects.{state_by}
use Rattle.calls.specs.Printing.{text, has_outcome, work_after}
use Rattle.calls.specs.Calls.{Call, Reply, Exchange, written_by, row_for, number_for, after, reply, answer, called}
use Rattle.calls.specs.Demand2.{Enough, PlanCall}
use Rattle.calls.specs.Last.{printed_ok, asks_plan, current_after, kept_outcome, LastCall, shown_as, StoredShown, LastRight}
use Rattle.calls.proofs.State.{kept-stored}
use Rattle.calls.proofs.Numbers.{passed}
use Rattle.calls.proofs.Answers.{positive, refused_if, roomy, row_is, answer_at, called-kept}
use Rattle.calls.proofs.Work.{clash, no_cells}
use Rattle.calls.proofs.Refusals.{after-number, still-state, shown-keeps}
use Rattle.calls.proofs.Keeps.{none-of-row}
use Rattle.calls.proofs.Demand1.{wrote}
use Rattle.calls.proofs.Plans.{plan-row, plan-number}

-- ---- what prints `ok`
not-ok : (n : ℕ) (r : Row) → same (text (suc n) r) ok ≡ false
unfolding text same refused
not-ok zero r = refl
not-ok (suc n) r = refl

-- a save begins with `clear`
save-not : (f : SaveForm) (t : Tables) → same (changes_text f (saved t)) ok ≡ false
unfolding saved changes_text line_of parted same
save-not f t = refl

-- a row prints it exactly if it is a change and its number is 0
prints-ok : (s : State) (m : ℕ) (c : Command) (n : ℕ) → (n ≡ 0 → lowest (causes_of m (row s c)) ≡ 0) → same (text n (row s c)) ok ≡ is_change (row s c) && eqb n 0
unfolding row text same plan_line need_line lowest
prints-ok s m (line.Change c) zero e = refl
prints-ok s m (line.Change c) (suc n) e = not-ok n (row s (line.Change c)) ∙ sym (ne_eqb (suc n) 0 (λ z. absurd (omega arith)))
prints-ok s m line.Plan zero e = refl
prints-ok s m line.Plan (suc n) e = not-ok n (row s line.Plan)
prints-ok s m (line.Check σ k) zero e = refl
prints-ok s m (line.Check σ k) (suc n) e = not-ok n (row s (line.Check σ k))
prints-ok s m (line.Save f) zero e = save-not f s.tables
prints-ok s m (line.Save f) (suc n) e = not-ok n (row s (line.Save f))
prints-ok s m line.Last zero e = refl
prints-ok s m line.Last (suc n) e = not-ok n (row s line.Last)
prints-ok s m (line.Need v) zero e = refl
prints-ok s m (line.Need v) (suc n) e = not-ok n (row s (line.Need v))
prints-ok s m line.Broken zero e = absurd (omega (arith, e refl))
prints-ok s m line.Broken (suc n) e = not-ok n (row s line.Broken)
prints-ok s m line.TooLong zero e = absurd (omega (arith, e refl))
prints-ok s m line.TooLong (suc n) e = not-ok n (row s line.TooLong)

-- ---- a state with a current plan, or with none
pub record Current (b : Bool) (s : State) : Type 0 where
  pub outcome : s.outcome ≡ kept_outcome b s.tables
  pub loads : b ≡ true → 0 < length s.tables.loads

-- 9 is given only where no set fits, on loads that are there
nine-given : (a b c : Bool) → lowest ((no.no_loads if a) ∷ (no.too_few_cells if b) ∷ (no.none_fits if c) ∷ []) ≡ no.none_fits → (a ≡ false) × (c ≡ true)
unfolding lowest
nine-given true b c e = absurd (omega arith)
nine-given false true c e = absurd (omega arith)
nine-given false false true e = (refl, refl)
nine-given false false false e = absurd (omega arith)

nine-of-row : (n room place : ℕ) (r : Row) → refusal n room place r ≡ no.none_fits → lowest (causes_of n r) ≡ no.none_fits
unfolding refusal all_causes lowest
nine-of-row n room place r e = go (ltb room (place + bytes_of r)) e
  where
    go : (b : Bool) → elim b as (λ x. ℕ) [ true ↦ no.unusable | false ↦ lowest (causes_of n r) ] ≡ no.none_fits → lowest (causes_of n r) ≡ no.none_fits
    go true e = absurd (omega arith)
    go false e = e

-- the current plan after a row, by its command and its number
abbrev current_by : Bool → Command → (changes : Bool) (number : ℕ) → Bool
current_by b c x n = pick (x && eqb n 0) false (pick (asks_plan c && has_outcome n) true b)

module _ (b : Bool) (s : State) (h : Current b s) (m : ℕ) where
  none_left : {x : State} → x.outcome ≡ nothing → Current false x
  none_left e = record { outcome = e; loads = λ q. absurd (clash (sym q)) }

  -- a plan with this number
  plan-left : (n : ℕ) → (n ≡ 0 → lowest (causes_of m (row s line.Plan)) ≡ 0) → (n ≡ no.none_fits → lowest (causes_of m (row s line.Plan)) ≡ no.none_fits)
      → Current (pick (has_outcome n) true b) (state_by s n (row s line.Plan))
  unfolding row none_fits
  plan-left zero e f =
      let t = s.tables in
      let p = passed no.no_loads (eqb (length t.loads) 0) _ (lit< tt) (e refl) in
      let q = passed no.too_few_cells (ltb m (cells_of t)) _ (lit< tt) p.1 in
      let some = positive (eqb-false (best_plan t) 0 (passed no.none_fits (eqb (best_plan t) 0) [] (lit< tt) q.1).0) in
      record { outcome = found_some (best_plan t) (plan_entries t) some; loads = λ _. positive (eqb-false (length t.loads) 0 p.0) }
  plan-left (suc n) e f = rw (ne_eqb (suc n) 0 (λ z. absurd (omega arith))) (go (eqb (suc n) no.none_fits) refl)
    where
      go : (i : Bool) → eqb (suc n) no.none_fits ≡ i → Current (pick i true b) (record { tables = s.tables; outcome = pick i no_set s.outcome; filled = s.filled })
      go true q =
          let g = nine-given _ _ _ (f (eqb-true (suc n) no.none_fits q)) in
          record { outcome = found_none (best_plan s.tables) (plan_entries s.tables) (eqb-true (best_plan s.tables) 0 g.1); loads = λ _. positive (eqb-false (length s.tables.loads) 0 g.0) }
      go false q = h

  -- a row that leaves the state
  shown-left : (n : ℕ) (r : Row) → is_show r ≡ true → Current b (state_by s n r)
  shown-left n r e = subst (Current b) (sym (still-state s n r e)) h

  row-left : (c : Command) (n : ℕ) → (n ≡ 0 → lowest (causes_of m (row s c)) ≡ 0) → (n ≡ no.none_fits → lowest (causes_of m (row s c)) ≡ no.none_fits)
      → Current (current_by b c (is_change (row s c)) n) (state_by s n (row s c))
  unfolding row
  row-left (line.Change c) zero e f = none_left refl
  row-left (line.Change c) (suc n) e f = rw (ne_eqb (suc n) 0 (λ z. absurd (omega arith))) h
  row-left line.Plan n e f = plan-left n e f
  row-left (line.Check σ k) n e f = shown-left n (row s (line.Check σ k)) refl
  row-left (line.Save x) n e f = shown-left n (row s (line.Save x)) refl
  row-left line.Last n e f = shown-left n (row s line.Last) refl
  row-left (line.Need v) n e f = shown-left n (row s (line.Need v)) refl
  row-left line.Broken n e f = shown-left n (row s line.Broken) refl
  row-left line.TooLong n e f = shown-left n (row s line.TooLong) refl

-- ---- a call on `last`
module _ (s : State) (c : Call) (k : LastCall c) where
  abbrev r : Row
  r = row s line.Last

  last_row : row_for s c ≡ r
  last_row = row_is s c line.Last k.line (numbers-short c.line line.Last k.line refl)

  last-causes : number_for s c ≡ lowest ((no.none_fits if is_no_set s.outcome) ∷ (no.no_plan if is_nothing s.outcome) ∷ [])
  unfolding row
  last-causes = ap (refusal (length c.work) (length c.output) c.place) last_row ∙ roomy (length c.work) (length c.output) c.place r k.free

  -- with this outcome
  last-number : (o : Outcome) → s.outcome ≡ o → number_for s c ≡ lowest ((no.none_fits if is_no_set o) ∷ (no.no_plan if is_nothing o) ∷ [])
  last-number o e = last-causes ∙ ap (λ (o : Outcome). lowest ((no.none_fits if is_no_set o) ∷ (no.no_plan if is_nothing o) ∷ [])) e

  -- it works in no cells, and leaves the state
  last-work : (n : ℕ) → work_after n r c.work ≡ c.work
  unfolding row
  last-work n = no_cells n r c.work refl

  last-after : after s c ≡ s
  unfolding row
  last-after = shown-keeps s c (ap is_show last_row)

  -- it shows what is stored
  last-shown : answer s c ≡ shown_as s.tables s.outcome c
  unfolding text row lowest plan_text
  last-shown = go s.outcome refl
    where
      go : (o : Outcome) → s.outcome ≡ o → answer s c ≡ shown_as s.tables o c
      go nothing e = answer_at s c no.no_plan r (last-number nothing e) last_row ∙ ap (reply c no.no_plan (refused no.no_plan)) (last-work no.no_plan)
      go no_set e = answer_at s c no.none_fits r (last-number no_set e) last_row ∙ ap (reply c no.none_fits (refused no.none_fits)) (last-work no.none_fits)
      go (planned es) e =
          answer_at s c 0 r (last-number (planned es) e) last_row ∙ ap (reply c 0 (text 0 r)) (last-work 0)
          ∙ ap (λ (o : Outcome). reply c 0 (shown_text (showing_plan s.tables (entries_of o))) c.work) e

-- on every planner that keeps the limits
pub last_stored : {n : ℕ} (p : StoredState) → Kept n p → (c : Call) → LastCall c → StoredShown p c (called p c)
last_stored p h c k =
    let s = state_of p in
    let shown = last-shown s c k in
    let left = ap stored_state (last-after s c k) ∙ sym (kept-stored p h) in
    called-kept p h c ∙ (λ i. record { state = left i; reply = shown i })

-- ---- a call
module _ (s : State) (h : Within s) (x : Exchange) (is : x.done.reply ≡ answer s x.call) where
  abbrev c : Call
  c = x.call

  -- its number, and its row by its command
  number_is : x.done.reply.number ≡ number_for s c
  unfolding answer
  number_is = ap (λ (r : Reply). r.number) is

  pub change-is : printed_ok x ≡ is_change (row_for s c) && eqb (number_for s c) 0
  unfolding line_row
  change-is =
      ap (λ (r : Reply). same (written_by c r) ok) is ∙ ap (λ (b : List ℕ). same b ok) (wrote s h c)
      ∙ prints-ok s (length c.work) (line_command c.line) (number_for s c) (none-of-row (length c.work) (length c.output) c.place (row_for s c))

  -- is there a current plan after it?
  current-is : (b : Bool) → current_after b x ≡ current_by b (line_command c.line) (is_change (row_for s c)) (number_for s c)
  current-is b = rw (change-is, number_is)

  pub current-after : (b : Bool) → Current b s → Current (current_after b x) (after s c)
  unfolding line_row
  current-after b k =
      let m = length c.work in
      let n = number_for s c in
      let left = row-left b s k m (line_command c.line) n (none-of-row m (length c.output) c.place (row_for s c)) (nine-of-row m (length c.output) c.place (row_for s c)) in
      subst (λ (y : State). Current (current_after b x) y) (sym (after-number s c)) (subst (λ (i : Bool). Current i (state_by s n (row_for s c))) (sym (current-is b)) left)

  -- ---- on `last`
  module _ (k : LastCall c) (b : Bool) (cur : Current b s) where
    -- none: 12
    no-plan : b ≡ false → number_for s c ≡ no.no_plan
    unfolding lowest
    no-plan e = last-number s c k nothing (cur.outcome ∙ ap (λ (i : Bool). kept_outcome i s.tables) e)

    none-given : b ≡ false → answer s c ≡ reply c no.no_plan (refused no.no_plan) c.work
    none-given e = last-shown s c k ∙ ap (λ (o : Outcome). shown_as s.tables o c) (cur.outcome ∙ ap (λ (i : Bool). kept_outcome i s.tables) e)

    -- a current plan: its number, and its text, are those of `plan`
    module _ (e : b ≡ true) where
      same_outcome : s.outcome ≡ found (best_plan s.tables) (plan_entries s.tables)
      same_outcome = cur.outcome ∙ ap (λ (i : Bool). kept_outcome i s.tables) e

      plan-number-is : (i : Bool) → none_fits s.tables ≡ i → number_for s c ≡ refused_if no.none_fits i
      unfolding none_fits lowest
      plan-number-is true q = last-number s c k no_set (same_outcome ∙ sym (found_none (best_plan s.tables) (plan_entries s.tables) (eqb-true (best_plan s.tables) 0 q)))
      plan-number-is false q = last-number s c k (planned (plan_entries s.tables)) (same_outcome ∙ sym (found_some (best_plan s.tables) (plan_entries s.tables) (positive (eqb-false (best_plan s.tables) 0 q))))

      plan-text-is : (i : Bool) → none_fits s.tables ≡ i → text (refused_if no.none_fits i) (row s line.Last) ≡ text (refused_if no.none_fits i) (row s line.Plan)
      unfolding none_fits text row
      plan-text-is true q = refl
      plan-text-is false q =
          ap (λ (o : Outcome). shown_text (showing_plan s.tables (entries_of o)))
          (same_outcome ∙ sym (found_some (best_plan s.tables) (plan_entries s.tables) (positive (eqb-false (best_plan s.tables) 0 q))))

      module _ (d : Call) (q : Enough s.tables d) where
        plan-call : PlanCall s.tables d
        plan-call = record { enough = q; loads = cur.loads e }

        same_number : number_for s c ≡ number_for s d
        same_number = plan-number-is (none_fits s.tables) refl ∙ sym (plan-number s d plan-call (none_fits s.tables) refl)

        same_text : text (number_for s c) (row_for s c) ≡ text (number_for s d) (row_for s d)
        same_text =
            ap₂ text (plan-number-is (none_fits s.tables) refl) (last_row s c k) ∙ plan-text-is (none_fits s.tables) refl
            ∙ sym (ap₂ text (plan-number s d plan-call (none_fits s.tables) refl) (plan-row s d plan-call))

        as-plan : ((answer s c).number ≡ (answer s d).number) × ((answer s c).count ≡ (answer s d).count) × (written_by c (answer s c) ≡ written_by d (answer s d))
        unfolding answer
        as-plan = (same_number, ap length same_text, wrote s h c ∙ same_text ∙ sym (wrote s h d))

    -- it is 12 exactly where there is no current plan
    twelve-none : (i : Bool) → b ≡ i → number_for s c ≡ no.no_plan → i ≡ false
    twelve-none false e n = refl
    twelve-none true e n = go (none_fits s.tables) refl
      where
        go : (j : Bool) → none_fits s.tables ≡ j → true ≡ false
        go true q = absurd (omega (arith, plan-number-is e true q))
        go false q = absurd (omega (arith, plan-number-is e false q))

    pub last-right : x.done.state ≡ stored_state (after s c) → LastRight b s x
    unfolding answer
    last-right state = record {
      shown = λ e d q. rw is (as-plan e d q);
      refusal = λ e. is ∙ none-given e;
      twelve = (λ n. twelve-none b refl (sym number_is ∙ n), λ e. number_is ∙ no-plan e);
      work = ap (λ (y : Reply). y.work) is ∙ ap (λ (y : Row). work_after (number_for s c) y c.work) (last_row s c k) ∙ last-work s c k (number_for s c);
      planner = state ∙ ap stored_state (last-after s c k);
    }
