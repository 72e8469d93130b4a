-- An outcome within its range, stored and read back, and the test of one that is handed in. Assumes nothing.
use Prim.Native.Nat.{ℕ, zero, suc, ◌+◌, ◌≤◌, ◌<◌, zero-le}
use mathlib.Core.Path.{◌≡◌, refl, sym, ap, subst, ◌∙◌}
use mathlib.Core.Bool.{true, ◌&&◌}
use mathlib.Core.List.{List, [], ◌∷◌, map}
use native.Mathlib.Numerals.{one-add}
use native.Mathlib.Omega.{arith}
use borrow.Author.Tests.{eqb-true, eq-eqb, leb-true, le-leb}
use lib.Dec.{eqb, leb}
use lib.ListN.{length, get_or, length-map}
use Rattle.lists.specs.Tests.{every_from}
use Rattle.lists.specs.Arrays.{laid}
use Rattle.lists.proofs.Bools.{and_left, and_right}
use Rattle.lists.proofs.Tests.{from_each, from_at}
use Rattle.lists.proofs.Places.{laid-free}
use Rattle.marks.specs.declared.LoadSet.{LoadSet}
use Rattle.marks.specs.Sets.{set_width, no_loads, loads_up_to}
use Rattle.marks.proofs.Sets.{first_of, first-up-to}
use Rattle.tables.specs.Tables.{Tables}
use Rattle.tables.specs.Limits.{between, Limits}
use Rattle.tables.specs.Lawful.{Lawful}
use Rattle.tables.proofs.Lawful.{lawful}
use Rattle.tables.specs.declared.entry.Entry.{Entry}
use Rattle.meaning.specs.Runs.{TreeRun, row_rule_in}
use Rattle.meaning.specs.Sets.{tree_of}
use Rattle.meaning.specs.Best.{best_plan}
use Rattle.meaning.specs.Choice.{no_entry, find, plan, plan_entries, assigned_by, shown_set}
use Rattle.meaning.specs.Claims.{Numbered, EachLoad}
use Rattle.meaning.proofs.Named.{run-names}
use Rattle.meaning.proofs.Ranges.{plan-bounded}
use Rattle.meaning.proofs.Entries.{plan-listed}
use Rattle.meaning.proofs.InOrder.{listed-numbered, same-find}
use Rattle.meaning.proofs.Ordered.{loads-ordered}
use Rattle.meaning.proofs.Claims.{claims}
use Rattle.runs.specs.declared.run.Run.{Run}
use Rattle.runs.specs.declared.outcome.StoredOutcome.{StoredOutcome}
use Rattle.runs.specs.declared.outcome.RunRange.{RunRange}
use Rattle.runs.specs.Runs.{mark_all, run_of, entries_to}
use Rattle.runs.specs.Outcome.{Outcome, nothing, no_set, planned, found, stored_outcome, of_status, outcome_of, range_of, figures_in, entry_in, outcome_in, used_by, zero_from, run_free, keeps_outcome}
use Rattle.runs.proofs.Entries.{number_at, find_at, entries-read, set_to, run-read}

-- ---- the lines of a plan that is in range
pub record LinesIn (m : RunRange) (es : List Entry) : Type 0 where
  pub all : length es ≡ m.loads
  pub each : Numbered 1 es
  pub marks : (i : ℕ) → i < length es → (get_or es i no_entry).mark ≤ 1
  pub figures : (i : ℕ) → i < length es → figures_in m (get_or es i no_entry) ≡ true

numbered-from : (m : RunRange) (k : ℕ) (es : List Entry) → every_from (entry_in m) k es ≡ true → Numbered k es
unfolding every_from entry_in
numbered-from m k [] h = tt
numbered-from m k (e ∷ es) h =
    let here = and_left (eqb e.number k && leb e.mark 1 && figures_in m e) (every_from (entry_in m) (suc k) es) h in (
      eqb-true e.number k (and_left (eqb e.number k) (leb e.mark 1) (and_left (eqb e.number k && leb e.mark 1) (figures_in m e) here)),
      numbered-from m (suc k) es (and_right (eqb e.number k && leb e.mark 1 && figures_in m e) (every_from (entry_in m) (suc k) es) h),
    )

pub lines-in : (m : RunRange) (es : List Entry) → outcome_in m (planned es) ≡ true → LinesIn m es
unfolding outcome_in entry_in
lines-in m es h =
    let each = and_right (eqb (length es) m.loads) (every_from (entry_in m) 1 es) h in
    let at : (i : ℕ) → i < length es → entry_in m (suc i) (get_or es i no_entry) ≡ true = λ i b. from_at no_entry (entry_in m) 1 es each i b (suc i) (omega arith) in
    let front : (i : ℕ) → i < length es → eqb (get_or es i no_entry).number (suc i) && leb (get_or es i no_entry).mark 1 ≡ true = λ i b. and_left _ (figures_in m (get_or es i no_entry)) (at i b) in
    record {
      all = eqb-true (length es) m.loads (and_left (eqb (length es) m.loads) (every_from (entry_in m) 1 es) h);
      each = numbered-from m 1 es each;
      marks = λ i b. leb-true (get_or es i no_entry).mark 1 (and_right (eqb (get_or es i no_entry).number (suc i)) _ (front i b));
      figures = λ i b. and_right (eqb (get_or es i no_entry).number (suc i) && leb (get_or es i no_entry).mark 1) _ (at i b);
    }

-- a state, a load rule and a row rule are no more than there are
pub record Few (m : RunRange) (e : Entry) : Type 0 where
  pub state : e.state ≤ m.states
  pub rule : e.rule ≤ m.load_rules
  pub row : e.row ≤ m.row_rules

row-few : (rules k r : ℕ) → row_rule_in rules k r ≡ true → r ≤ rules
row-few m zero r h = absurd (let z : ◌≡◌ {A = ℕ} 0 1 = cc in omega arith)
row-few m (suc zero) r h = omega (arith, eqb-true r 0 h)
row-few m (suc (suc k)) r h = leb-true r m (and_right (leb 1 r) (leb r m) h)

pub named_in : (m : RunRange) (e : Entry) → figures_in m e ≡ true → Few m e
unfolding figures_in
named_in m e h =
    let s = between 1 m.states e.state in
    let l = between 1 m.load_rules e.rule in
    let two = and_left (s && l) (row_rule_in m.row_rules e.number e.row) h in
    record {
      state = leb-true e.state m.states (and_right (leb 1 e.state) _ (and_left s l two));
      rule = leb-true e.rule m.load_rules (and_right (leb 1 e.rule) _ (and_right s l two));
      row = row-few m.row_rules e.number e.row (and_right (s && l) (row_rule_in m.row_rules e.number e.row) h);
    }

-- ---- stored, and read back
module _ (w : ℕ) (most : w ≤ set_width) (m : RunRange) (few : m.loads ≤ w) where
  lines-read : (es : List Entry) → LinesIn m es → entries_to (run_of w es) m.loads ≡ es
  lines-read es l =
      subst (λ (n : ℕ). entries_to (run_of w es) n ≡ es) l.all
      (entries-read w most es l.each (omega (arith, l.all)) l.marks)

  pub outcome-stored : (o : Outcome) → outcome_in m o ≡ true → outcome_of m.loads (stored_outcome w o) ≡ o
  outcome-stored nothing h = refl
  outcome-stored no_set h = refl
  outcome-stored (planned es) h = ap planned (lines-read es (lines-in m es h))

  -- what is stored keeps the limits: past the loads all is 0
  column-free : (f : Entry → ℕ) (es : List Entry) → length es ≤ w → zero_from (length es) (laid 0 w (map f es)) ≡ true
  column-free f es h =
      let n = length-map es f in
      let free = laid-free 0 (λ x. eqb x 0) refl (λ a q. eqb-true a 0 q) w (map f es) (omega arith) in
      subst (λ (k : ℕ). zero_from k (laid 0 w (map f es)) ≡ true) n (and_right (leb (length (map f es)) w) _ free)

  set_free : (es : List Entry) → LinesIn m es → loads_up_to (length es) (mark_all no_loads es) ≡ true
  unfolding run_of
  set_free es l =
      let n = length es in
      let same : mark_all no_loads es ≡ first_of (mark_all no_loads es) n =
      sym (ap (mark_all no_loads) (ap (entries_to (run_of w es)) l.all ∙ lines-read es l)) ∙ set_to (run_of w es) n (omega (arith, l.all)) in
      subst (λ (s : LoadSet). loads_up_to n s ≡ true) (sym same) (first-up-to (mark_all no_loads es) n)

  run-free : (es : List Entry) → LinesIn m es → run_free m.loads (run_of w es) ≡ true
  unfolding run_of run_free
  run-free es l =
      let h : length es ≤ w = omega (arith, l.all) in
      rw (← l.all, column-free (λ e. e.state) es h, column-free (λ e. e.rule) es h, column-free (λ e. e.row) es h) (set_free es l)

  none_free : run_free 0 (run_of w []) ≡ true
  unfolding run_of run_free mark_all
  none_free = rw (column-free (λ e. e.state) [] zero-le)

  pub stored-in : (o : Outcome) → outcome_in m o ≡ true → keeps_outcome m (stored_outcome w o) ≡ true
  unfolding keeps_outcome outcome_in
  stored-in nothing h = rw none_free
  stored-in no_set h = rw none_free
  stored-in (planned es) h = rw (run-free es (lines-in m es h), lines-read es (lines-in m es h)) h

  -- what keeps the limits is stored so
  as-stored : (k : ℕ) (r : Run) → length r.states ≡ w → length r.load_rules ≡ w → length r.row_rules ≡ w
      → leb k 2 ≡ true → run_free (used_by m.loads k) r ≡ true → record { status = k; run = r } ≡ stored_outcome w (of_status k (entries_to r m.loads))
  unfolding entries_to
  as-stored zero r a b c l f = let e = run-read r w most a b c 0 zero-le f in λ i. record { status = 0; run = sym e i }
  as-stored (suc zero) r a b c l f = let e = run-read r w most a b c 0 zero-le f in λ i. record { status = 1; run = sym e i }
  as-stored (suc (suc zero)) r a b c l f = let e = run-read r w most a b c m.loads few f in λ i. record { status = 2; run = sym e i }
  as-stored (suc (suc (suc k))) r a b c l f = absurd (omega (arith, leb-true (suc (suc (suc k))) 2 l))

  pub kept-stored : (o : StoredOutcome) → length o.run.states ≡ w → length o.run.load_rules ≡ w → length o.run.row_rules ≡ w
      → keeps_outcome m o ≡ true → o ≡ stored_outcome w (outcome_of m.loads o)
  unfolding keeps_outcome
  kept-stored o a b c h =
      let front = and_left _ (outcome_in m (outcome_of m.loads o)) h in
      as-stored o.status o.run a b c (and_left (leb o.status 2) _ front) (and_right (leb o.status 2) _ front)

pub kept_in : (m : RunRange) (o : StoredOutcome) → keeps_outcome m o ≡ true → outcome_in m (outcome_of m.loads o) ≡ true
unfolding keeps_outcome
kept_in m o h = and_right (leb o.status 2 && run_free (used_by m.loads o.status) o.run) (outcome_in m (outcome_of m.loads o)) h

-- ---- what a search found: nothing where its best is 0
pub found_none : (v : ℕ) (es : List Entry) → v ≡ 0 → no_set ≡ found v es
found_none v es e = rw e

pub found_some : (v : ℕ) (es : List Entry) → 0 < v → planned es ≡ found v es
found_some zero es h = absurd (omega arith)
found_some (suc v) es h = refl

-- the lines of a run of the tables are in range for them
pub run_in : (t : Tables) → Lawful t → (es : List Entry) → EachLoad t es → ((i : ℕ) → i < length es → (get_or es i no_entry).mark ≤ 1)
    → (σ : ℕ → ℕ) → TreeRun t.book σ (assigned_by es) (tree_of t) → outcome_in (range_of t) (planned es) ≡ true
unfolding outcome_in entry_in figures_in
run_in t w es l marks σ run =
    rw (eq-eqb (length es) (length t.loads) l.all)
    (from_each no_entry (entry_in (range_of t)) 1 es (λ i b k e.
    let number : (get_or es i no_entry).number ≡ suc i = omega (arith, number_at es 1 i l.each b) in
    let s : k ≡ suc i = omega arith in
    let at : find es (suc i) ≡ get_or es i no_entry = ap (find es) (sym (one-add i)) ∙ find_at es 1 i l.each b in
    let named = run-names t w σ (assigned_by es) run (suc i) (omega arith) (omega (arith, l.all)) in
    rw (s, number, eq-eqb (suc i) (suc i) refl, le-leb (get_or es i no_entry).mark 1 (marks i b)) (rw at at named)))

-- ---- what a plan finds is in range for its tables
module _ (t : Tables) (h : Limits t) where
  plan-mark : (i : ℕ) → i < length (plan_entries t) → (get_or (plan_entries t) i no_entry).mark ≤ 1
  unfolding plan_entries
  plan-mark i b =
      let l = plan-listed t (loads-ordered t.loads (lawful t h).load) in
      let at = sym (find_at (plan_entries t) 1 i (listed-numbered (plan t) (length t.loads) l) b) ∙ same-find (plan t) (length t.loads) l (1 + i) in
      rw at (plan-bounded t (lawful t h) (1 + i)).mark

  pub plan-in : 0 < best_plan t → outcome_in (range_of t) (planned (plan_entries t)) ≡ true
  plan-in pos =
      let p = (claims t h).planned pos in
      run_in t (lawful t h) (plan_entries t) p.loads plan-mark (shown_set (plan_entries t)) p.run

  pub found_in : outcome_in (range_of t) (found (best_plan t) (plan_entries t)) ≡ true
  unfolding outcome_in
  found_in = go (best_plan t) refl
    where
      go : (v : ℕ) → best_plan t ≡ v → outcome_in (range_of t) (found v (plan_entries t)) ≡ true
      go zero e = refl
      go (suc v) e = plan-in (omega arith)
