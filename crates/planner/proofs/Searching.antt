-- The ways out of `plan`, `check` and `last`: a refusal, or what was found. Assumes nothing.
use Rattle.std.specs.Prelude.{None, Some, Result, Ok, Err}
use Prim.Native.Nat.{ℕ, zero, suc, ◌+◌, ◌*◌, ◌≤◌, ◌<◌}
use mathlib.Core.Path.{◌≡◌, refl, sym, ap, ap₂, subst, ◌∙◌}
use mathlib.Core.Bool.{true, false}
use mathlib.Core.List.{List, [], ◌∷◌, ◌++◌}
use native.Mathlib.Nat.{mul-le-mul}
use native.Mathlib.Omega.{arith}
use borrow.Author.Tests.{eq-eqb, ne_eqb, lt-ltb, le-ltb}
use lib.Dec.{eqb, lit≤, lit<}
use lib.ListN.{length}
use Rattle.lists.proofs.Bools.{or_left}
use Rattle.marks.specs.declared.LoadSet.{LoadSet}
use Rattle.marks.specs.Sets.{size_of, mark_in}
use Rattle.lines.specs.declared.Command.TheVariants.{Plan, Check, Last}
use Rattle.lines.specs.declared.answer.Answer.TheVariants.{Planned, Allowed}
use Rattle.lines.specs.Answers.{plan_line, entry_lines, number_of, numbered}
use Rattle.tables.specs.declared.tables.StoredTables.{StoredTables}
use Rattle.tables.specs.declared.refusal.Refusal.{Refusal}
use Rattle.tables.specs.declared.refusal.Refusal.TheVariants.{NoPlan, NoneFits}
use Rattle.tables.specs.Refusals as no
use Rattle.tables.specs.Tables.{Tables}
use Rattle.tables.specs.Limits.{max_loads, max_states, max_budget, Limits}
use Rattle.tables.specs.Lawful.{Lawful as Lawful'}
use Rattle.tables.specs.Stored.{book_of, tables_of, keeps_limits, Holds}
use Rattle.tables.proofs.Lawful as tables
use Rattle.tables.proofs.Stored.{stored-keeps, held-loads}
use Rattle.meaning.specs.Sets.{power, worth, number_on}
use Rattle.meaning.specs.Best.{best_plan, best_check}
use Rattle.tables.specs.declared.entry.Entry.{Entry}
use Rattle.meaning.specs.Choice.{plan_entries, check_entries, shown_set}
use Rattle.meaning.specs.Claims.{EachLoad}
use Rattle.meaning.specs.Cells.{cells_of}
use Rattle.meaning.specs.Need.{none_fits}
use Rattle.runs.specs.declared.run.Run.{Run}
use Rattle.runs.specs.declared.outcome.StoredOutcome.{StoredOutcome}
use Rattle.runs.specs.Runs.{run_of, entries_to}
use Rattle.runs.specs.Outcome.{Outcome, planned, is_nothing, is_no_set, entries_of, found, stored_outcome, stored_found, latest_by, of_status, outcome_of, range_of}
use Rattle.runs.proofs.Stored.{lines-in, outcome-stored, found_in}
use Rattle.calls.specs.State.{State, stored_state}
use Rattle.calls.specs.Rows.{◌if◌, Row, showing_plan, plan_text, not_allowed, row, causes_of, cells_for}
use Rattle.calls.specs.Causes.{lowest}
use Rattle.calls.specs.Effects.{state_by}
use Rattle.calls.specs.Printing.{zeroed, has_outcome, searched}
use Rattle.calls.proofs.State.{lawful, places, few-loads, kept-within, kept-stored}
use Rattle.calls.proofs.Work.{unsearched, row-zeroed}
use Rattle.calls.proofs.Refusals.{refused-state, still-state}
use Rattle.engine.proofs.Answers.{lines-set, lines-size}
use Rattle.planner.specs.declared.Planner.{Planner}
use Rattle.planner.specs.declared.search.Decided.{Decided}
use Rattle.planner.specs.Planner.{held, planner_of, state_in, Lawful}
use Rattle.planner.specs.Decided.{plan_answer, unshown, allowed, Decision, decision, decided_by, decided, Decides}
use Rattle.planner.proofs.Commands.{tables-count, load-count, outcome-held}

-- ---- what a search found
pub none-found : (v : ℕ) (es : List Entry) → stored_found None ≡ stored_outcome max_loads (found v es) → v ≡ 0
none-found zero es is = refl
none-found (suc v) es is = absurd (omega (arith, ap (λ (o : StoredOutcome). o.status) is))

pub some-found : (v : ℕ) (es : List Entry) {x : Run} → stored_found (Some x) ≡ stored_outcome max_loads (found v es) → (v ≡ 0 → ⊥) × (x ≡ run_of max_loads es)
some-found zero es is = absurd (omega (arith, ap (λ (o : StoredOutcome). o.status) is))
some-found (suc v) es is = (λ z. omega arith, ap (λ (o : StoredOutcome). o.run) is)

-- ---- the numbers of `plan`
module _ (s : State) (cells : ℕ) where
  pub plan-no-loads : length s.tables.loads ≡ 0 → lowest (causes_of cells (row s Plan)) ≡ no.no_loads
  unfolding row lowest
  plan-no-loads e = rw (eq-eqb (length s.tables.loads) 0 e)

  module _ (some : length s.tables.loads ≡ 0 → ⊥) where
    pub plan-too-few : cells < cells_of s.tables → lowest (causes_of cells (row s Plan)) ≡ no.too_few_cells
    unfolding row lowest
    plan-too-few l = rw (ne_eqb (length s.tables.loads) 0 some, lt-ltb cells (cells_of s.tables) l)

    pub plan-none-fits : cells_of s.tables ≤ cells → best_plan s.tables ≡ 0 → lowest (causes_of cells (row s Plan)) ≡ no.none_fits
    unfolding row lowest none_fits
    plan-none-fits l e = rw (ne_eqb (length s.tables.loads) 0 some, le-ltb cells (cells_of s.tables) l, eq-eqb (best_plan s.tables) 0 e)

    pub plan-accepted : cells_of s.tables ≤ cells → (best_plan s.tables ≡ 0 → ⊥) → lowest (causes_of cells (row s Plan)) ≡ 0
    unfolding row lowest none_fits
    plan-accepted l e = rw (ne_eqb (length s.tables.loads) 0 some, le-ltb cells (cells_of s.tables) l, ne_eqb (best_plan s.tables) 0 e)

-- ---- the numbers of `check`
module _ (s : State) (σ : LoadSet) (n : ℕ) where
  pub check-no-loads : length s.tables.loads ≡ 0 → lowest (causes_of 0 (row s (Check σ n))) ≡ no.no_loads
  unfolding row lowest
  check-no-loads e = rw (eq-eqb (length s.tables.loads) 0 e)

  module _ (some : length s.tables.loads ≡ 0 → ⊥) where
    pub check-out-of-range : (n ≡ length s.tables.loads → ⊥) → lowest (causes_of 0 (row s (Check σ n))) ≡ no.out_of_range
    unfolding row lowest
    check-out-of-range d = rw (ne_eqb (length s.tables.loads) 0 some, ne_eqb n (length s.tables.loads) d)

    pub check-not-allowed : n ≡ length s.tables.loads → best_check s.tables (mark_in σ) ≡ 0 → lowest (causes_of 0 (row s (Check σ n))) ≡ no.not_allowed
    unfolding row lowest not_allowed
    check-not-allowed q e = rw (ne_eqb (length s.tables.loads) 0 some, eq-eqb n (length s.tables.loads) q, eq-eqb (best_check s.tables (mark_in σ)) 0 e)

    pub check-accepted : n ≡ length s.tables.loads → (best_check s.tables (mark_in σ) ≡ 0 → ⊥) → lowest (causes_of 0 (row s (Check σ n))) ≡ 0
    unfolding row lowest not_allowed
    check-accepted q e = rw (ne_eqb (length s.tables.loads) 0 some, eq-eqb n (length s.tables.loads) q, ne_eqb (best_check s.tables (mark_in σ)) 0 e)

-- ---- on a planner that holds tables within the limits
module _ (s : StoredTables) (h : Holds max_loads s) where
  pub kept : keeps_limits s ≡ true
  kept = ap keeps_limits h.2 ∙ stored-keeps h.0 h.1

  -- how many cells their plan needs, and that these are few
  pub cells_are : s.loads.count * (s.book.states + s.book.stages) * (s.budget + 1) ≡ cells_of (tables_of s)
  unfolding cells_of tables_of book_of
  cells_are = ap (λ (n : ℕ). n * (s.book.states + s.book.stages) * (s.budget + 1)) (tables-count s h)

  sizes : Lawful' (tables_of s)
  sizes = tables.lawful (tables_of s) (lawful s h)

  pub rows_few : s.loads.count * (s.book.states + s.book.stages) ≤ max_loads * (max_states + max_states)
  unfolding tables_of book_of
  rows_few = mul-le-mul {n₂ = max_loads} {m₂ = max_states + max_states} (held-loads max_loads s h) (omega (arith, sizes.states, sizes.stages))

  pub cells-few : cells_of (tables_of s) ≤ max_loads * (max_states + max_states) * (max_budget + 1)
  unfolding tables_of
  cells-few = subst (λ (n : ℕ). n ≤ max_loads * (max_states + max_states) * (max_budget + 1)) cells_are (mul-le-mul {m₂ = max_budget + 1} rows_few (omega (arith, sizes.budget)))

module _ (p : Planner) (h : Lawful p) where
  pub is_held : p ≡ planner_of (stored_state (state_in p))
  is_held = ap planner_of (kept-stored (held p) h)

  -- refused, where the state is as it was, and so with a number that is no outcome's
  pub refuses-so : (r : Row) (n : ℕ) (e : Refusal) {d : Decided} → 0 < no.number_of e → state_by (state_in p) (no.number_of e) r ≡ state_in p → d ≡ unshown (Err e) p
      → n ≡ no.number_of e → decision d ≡ decided_by (state_in p) n r
  unfolding decided_by
  refuses-so r n e l same is q = ap decision is ∙ go n q
    where
      go : (m : ℕ) → m ≡ no.number_of e → ◌≡◌ {A = Decision} (decision (unshown (Err e) p)) (decided_by (state_in p) m r)
      go zero k = absurd (omega (arith, k, l))
      go (suc m) k =
          let left = is_held ∙ ap (λ (x : State). planner_of (stored_state x)) (sym same) ∙ ap (λ (i : ℕ). planner_of (stored_state (state_by (state_in p) i r))) (sym k) in
          let number = sym k in
          λ i. record { answer = Err (number i); run = None; planner = left i }

  pub refuses : (r : Row) (n : ℕ) (e : Refusal) {d : Decided} → 0 < no.number_of e → has_outcome (no.number_of e) ≡ false → d ≡ unshown (Err e) p
      → n ≡ no.number_of e → decision d ≡ decided_by (state_in p) n r
  refuses r n e l a = refuses-so r n e l (refused-state (state_in p) (no.number_of e) r l a)

  -- and where nothing was searched the work is as it was too
  pub turns_down : (r : Row) (e : Refusal) (w : List ℕ) {d : Decided} → 0 < no.number_of e → searched (no.number_of e) ≡ false → d ≡ unshown (Err e) p
      → lowest (causes_of (length w) r) ≡ no.number_of e → Decides (state_in p) r w w d
  turns_down r e w l a is n = record {
    answer = refuses r (lowest (causes_of (length w) r)) e l (or_left (has_outcome (no.number_of e)) (eqb (no.number_of e) no.too_poor) a) is n;
    work = sym (unsearched _ r w (ap (λ (d : Decided). searched (number_of (numbered d.answer))) is ∙ a));
  }

  -- the latest outcome: none, that none fits, or a plan
  pub last_none : p.outcome.status ≡ 0 → lowest (causes_of 0 (row (state_in p) Last)) ≡ no.no_plan
  unfolding row lowest
  last_none e = rw e

  pub last-none-fits : p.outcome.status ≡ 1 → lowest (causes_of 0 (row (state_in p) Last)) ≡ no.none_fits
  unfolding row lowest
  last-none-fits e = rw e

  last-refused : p.outcome.status ≡ 1 → decision (unshown (Err NoneFits) p) ≡ decided (state_in p) 0 (row (state_in p) Last)
  unfolding row
  last-refused e =
      refuses-so (row (state_in p) Last) _ NoneFits (lit< tt) (still-state (state_in p) no.none_fits (row (state_in p) Last) refl) refl (last-none-fits e)

  -- the load lines of a plan that is stored
  pub shown-lines : List Entry
  shown-lines = entries_to p.outcome.run (length (state_in p).tables.loads)

  module _ (some : p.outcome.status ≡ 0 → ⊥) (fits : p.outcome.status ≡ 1 → ⊥) where
    pub planned-is : (state_in p).outcome ≡ planned shown-lines
    unfolding shown-lines
    planned-is = go p.outcome.status some fits
      where
        go : (k : ℕ) → (k ≡ 0 → ⊥) → (k ≡ 1 → ⊥) → of_status k shown-lines ≡ planned shown-lines
        go zero a b = absurd (a refl)
        go (suc zero) a b = absurd (b refl)
        go (suc (suc k)) a b = refl

    last-accepted : lowest (causes_of 0 (row (state_in p) Last)) ≡ 0
    unfolding row lowest
    last-accepted = ap (λ (o : Outcome). lowest ((no.none_fits if is_no_set o) ∷ (no.no_plan if is_nothing o) ∷ [])) planned-is

    each : EachLoad (state_in p).tables shown-lines
    each = let l = lines-in (range_of (state_in p).tables) shown-lines (rw planned-is at (kept-within (held p) h).outcome) in record { all = l.all; each = l.each }

    few-places : length (state_in p).tables.loads ≤ max_loads
    few-places = omega (arith, few-loads (state_in p).tables (kept-within (held p) h).tables, places p.tables h.tables)

    run_is : p.outcome.run ≡ run_of max_loads shown-lines
    run_is = ap (λ (x : StoredOutcome). x.run) (outcome-held p h) ∙ ap (λ (o : Outcome). run_of max_loads (entries_of o)) planned-is

    -- its set is the one that they show
    pub set_is : mark_in p.outcome.run.set ≡ shown_set shown-lines
    set_is = ap (λ (x : Run). mark_in x.set) run_is ∙ lines-set (state_in p).tables shown-lines each few-places

    on-is : size_of p.outcome.run.set ≡ number_on (state_in p).tables (shown_set shown-lines)
    on-is = ap (λ (x : Run). size_of x.set) run_is ∙ lines-size (state_in p).tables shown-lines each few-places

    -- its text
    pub text-is : let σ = mark_in p.outcome.run.set in
        plan_line (worth (state_in p).tables σ) (power (state_in p).tables σ) (size_of p.outcome.run.set) ++ entry_lines (entries_to p.outcome.run p.tables.loads.count)
        ≡ plan_text (state_in p).tables shown-lines
    unfolding plan_text shown-lines
    text-is =
        let t = (state_in p).tables in
        let r = p.outcome.run in
        let n = p.tables.loads.count in
        ap (λ (σ : ℕ → ℕ). plan_line (worth t σ) (power t σ) (size_of r.set) ++ entry_lines (entries_to r n)) set_is
        ∙ ap₂ (λ (k n : ℕ). plan_line (worth t (shown_set shown-lines)) (power t (shown_set shown-lines)) k ++ entry_lines (entries_to r n)) on-is (load-count p h)

    -- a plan is shown, with the figures of its set
    pub shows-last : decision (record { answer = plan_answer p.tables.loads (Some p.outcome.run); run = Some p.outcome.run; planner = p }) ≡ decided (state_in p) 0 (row (state_in p) Last)
    unfolding decided_by row plan_answer tables_of
    shows-last =
        let t = (state_in p).tables in
        let x = p.outcome.run in
        let worths = ap (worth t) set_is in
        let powers = ap (power t) set_is in
        let shown : ◌≡◌ {A = Decision} (record { answer = Ok (Planned (worth t (mark_in x.set)) (power t (mark_in x.set)) (size_of x.set)); run = Some x; planner = p }) (record { answer = (showing_plan t shown-lines).answer; run = Some (run_of max_loads shown-lines); planner = planner_of (stored_state (state_in p)) }) = λ i. record { answer = Ok (Planned (worths i) (powers i) (on-is i)); run = Some (run_is i); planner = is_held i } in
        shown ∙ rw (last-accepted, planned-is)

  -- what is answered, by the latest plan
  abbrev pub showing_latest : Result Run Refusal → Decided
  showing_latest (Ok x) = record { answer = plan_answer p.tables.loads (Some x); run = Some x; planner = p }
  showing_latest (Err e) = unshown (Err e) p

  pub latest-shown : decision (showing_latest (latest_by p.outcome.status p.outcome.run)) ≡ decided (state_in p) 0 (row (state_in p) Last)
  latest-shown = go p.outcome.status refl
    where
      go : (k : ℕ) → p.outcome.status ≡ k → decision (showing_latest (latest_by k p.outcome.run)) ≡ decided (state_in p) 0 (row (state_in p) Last)
      go zero e = refuses (row (state_in p) Last) _ NoPlan (lit< tt) refl refl (last_none e)
      go (suc zero) e = last-refused e
      go (suc (suc k)) e = shows-last (λ z. absurd (omega (arith, e, z))) (λ z. absurd (omega (arith, e, z)))

  -- a run of a checked set was found
  pub allows : (σ : LoadSet) (m n : ℕ) → n ≡ 0 → {x : Run} → x ≡ run_of max_loads (check_entries (state_in p).tables (mark_in σ))
      → decision (allowed p (Ok x)) ≡ decided_by (state_in p) n (row (state_in p) (Check σ m))
  unfolding decided_by row
  allows σ m n z {x} is = rw z (λ i. record { answer = Ok Allowed; run = Some (is i); planner = is_held i })

-- ---- a plan stores what it found, and shows it as `last` does
plan-numbered : (s : State) (n : ℕ) → number_of (decided_by s n (row s Plan)).answer ≡ n
unfolding decided_by row
plan-numbered s zero = refl
plan-numbered s (suc n) = refl

module _ (p : Planner) (h : Lawful p) (o : StoredOutcome) (is : o ≡ stored_outcome max_loads (found (best_plan (state_in p).tables) (plan_entries (state_in p).tables))) where
  abbrev t : Tables
  t = (state_in p).tables

  -- the planner with it
  abbrev pub storing : Planner
  storing = record { tables = p.tables; outcome = o; filled = p.filled }

  limits : Limits t
  limits = (kept-within (held p) h).tables

  pub storing-lawful : Lawful storing
  storing-lawful = record { tables = h.tables; outcome = (found (best_plan t) (plan_entries t), found_in t limits, is ∙ ap (λ (n : ℕ). stored_outcome n (found (best_plan t) (plan_entries t))) (sym (places p.tables h.tables))); filled = h.filled }

  -- the state with what a plan found
  abbrev finding : (best : ℕ) → State
  finding v = record { tables = t; outcome = found v (plan_entries t); filled = p.filled }

  pub storing-state : state_in storing ≡ finding (best_plan t)
  storing-state =
      let read = ap (outcome_of (length t.loads)) is ∙ outcome-stored max_loads (lit≤ tt) (range_of t) (omega (arith, few-loads t limits, places p.tables h.tables)) (found (best_plan t) (plan_entries t)) (found_in t limits) in
      λ i. record { tables = t; outcome = read i; filled = p.filled }

  module _ (some : length t.loads ≡ 0 → ⊥) (w v : List ℕ) (enough : cells_of t ≤ length w) (cleared : v ≡ zeroed (cells_for (row (state_in p) Plan)) w) where
    -- it searched
    searches : searched (lowest (causes_of (length w) (row (state_in p) Plan))) ≡ true
    searches = go (best_plan t) refl
      where
        go : (x : ℕ) → best_plan t ≡ x → searched (lowest (causes_of (length w) (row (state_in p) Plan))) ≡ true
        go zero e = rw (plan-none-fits (state_in p) (length w) some enough e)
        go (suc x) e = rw (plan-accepted (state_in p) (length w) some enough (λ z. absurd (omega (arith, e, z))))

    as-last : decided (finding (best_plan t)) 0 (row (finding (best_plan t)) Last)
        ≡ decided (state_in p) (length w) (row (state_in p) Plan)
    unfolding decided_by row lowest
    as-last = go (best_plan t) refl
      where
        go : (x : ℕ) → best_plan t ≡ x → decided (finding x) 0 (row (finding x) Last)
            ≡ decided (state_in p) (length w) (row (state_in p) Plan)
        go zero e = rw (plan-none-fits (state_in p) (length w) some enough e)
        go (suc x) e = rw (plan-accepted (state_in p) (length w) some enough (λ z. absurd (omega (arith, e, z))))

    pub plans : {d : Decided} → decision d ≡ decided (state_in storing) 0 (row (state_in storing) Last) → Decides (state_in p) (row (state_in p) Plan) w v d
    plans {d} shown =
        let answer = shown ∙ ap (λ (s : State). decided s 0 (row s Last)) storing-state ∙ as-last in
        let number : number_of (numbered d.answer) ≡ lowest (causes_of (length w) (row (state_in p) Plan)) = ap (λ (d : Decision). number_of d.answer) answer ∙ plan-numbered (state_in p) _ in
        record { answer = answer; work = cleared ∙ sym (row-zeroed (number_of (numbered d.answer)) (row (state_in p) Plan) w (ap searched number ∙ searches)) }
