-- A portion, way out by way out: refused, cells filled, or the answer. Assumes nothing.
use Rattle.std.specs.Prelude.{Option, None, Some, Result, Ok}
use Prim.Native.Nat.{ℕ, zero, suc, min, ◌+◌, ◌-◌, ◌≤◌, ◌<◌}
use mathlib.Core.Path.{◌≡◌, refl, sym, ap, ◌∙◌}
use mathlib.Core.Bool.{true, false}
use mathlib.Core.List.{List, ◌++◌}
use native.Mathlib.Omega.{arith}
use borrow.Author.Tests.{ne_eqb, eq-eqb}
use borrow.Rule.Slice.PartMut.{put_mid}
use lib.Dec.{lit≤}
use lib.ListN.{length, take, drop, replicate}
use lib.Seq.{sets}
use Rattle.lines.specs.declared.answer.Answer.{Answer}
use Rattle.lines.specs.Saved.{saved}
use Rattle.lines.specs.Answers.{number_of, numbered, refused, run_bytes, text_of, Wrote}
use Rattle.lines.proofs.Answers.{refused-fits}
use Rattle.lines.proofs.Wrote.{free_back}
use Rattle.tables.specs.declared.refusal.Refusal.{Refusal}
use Rattle.tables.specs.Refusals as no
use Rattle.tables.specs.Tables.{Tables}
use Rattle.tables.specs.Limits.{max_loads, Limits}
use Rattle.tables.specs.Stored.{tables_of}
use Rattle.meaning.specs.Best.{best_plan}
use Rattle.meaning.specs.Choice.{plan_entries}
use Rattle.meaning.specs.Cells.{cells_of, Holding}
use Rattle.runs.specs.declared.outcome.StoredOutcome.{StoredOutcome}
use Rattle.runs.specs.declared.run.Run.{Run}
use Rattle.runs.specs.Outcome.{Outcome, nothing, no_set, planned, is_nothing, found, stored_outcome, stored_found, outcome_of, range_of, held_range, outcome_in, keeps_outcome}
use Rattle.runs.proofs.Stored.{lines-in}
use Rattle.engine.specs.Portion.{PartFilled, ReadFrom}
use Rattle.lists.specs.Arrays.{laid}
use Rattle.runs.specs.Runs.{run_of}
use Rattle.calls.specs.State.{State, stored_state}
use Rattle.calls.specs.Rows.{plan_text}
use Rattle.calls.specs.Printing.{zeroed}
use Rattle.calls.specs.Calls.{Call, Reply, cleared}
use Rattle.calls.specs.Demand2.{PlanCall}
use Rattle.calls.specs.Portions as paper
use Rattle.calls.specs.Portions.{PortionCall, plan_call, portion_number, open_cells, portion_fills, count_by, silent, Answers, Portioned}
use Rattle.calls.proofs.State.{kept_by, kept-within, kept-stored}
use Rattle.calls.proofs.Fits.{lines_fit}
use Rattle.calls.proofs.Plans.{outcome_reply}
use Rattle.calls.proofs.Portions.{answers_by}
use Rattle.planner.specs.declared.Planner.{Planner}
use Rattle.planner.specs.declared.portion.Portion.{Portion}
use Rattle.planner.specs.Planner.{held, state_in, Lawful}
use Rattle.planner.specs.Portions.{portion_done, with_filled, refused_by, Answered}
use Rattle.planner.specs.Decided.{plan_answer, entries_shown}
use Rattle.planner.proofs.Refusing.{refusal-positive}
use Rattle.planner.proofs.Searching.{planned-is, text-is, storing-state}

-- ---- a portion on a planner within the limits
module _ (p : Planner) (h : Lawful p) (c : PortionCall) where
  abbrev s : State
  s = state_in p

  -- the planner with another count holds the state with it
  filled-held : (m : ℕ) → held (with_filled p m) ≡ stored_state (paper.with_filled s m)
  filled-held m = λ i. let k = kept-stored (held p) h i in record { tables = k.tables; outcome = k.outcome; filled = m }

  counted : (m n : ℕ) → portion_number s c ≡ n → m ≡ count_by n s c → held (with_filled p m) ≡ stored_state (paper.after_portion s c)
  counted m n e is = filled-held m ∙ ap (λ (k : ℕ). stored_state (paper.with_filled s k)) (is ∙ ap (λ (i : ℕ). count_by i s c) (sym e))

  pub refuses : (r : Refusal) → no.number_of r ≡ portion_number s c → Portioned s c (portion_done (refused_by p r) c.output c.work)
  refuses r is = go (no.number_of r) refl
    where
      go : (n : ℕ) → no.number_of r ≡ n → Portioned s c (portion_done (refused_by p r) c.output c.work)
      go zero e = absurd (omega (arith, e, refusal-positive r))
      go (suc n) e =
          let one : portion_number s c ≡ suc n = sym is ∙ e in
          record {
            state = counted p.filled (suc n) one refl;
            filled = ap (λ (i : ℕ). portion_fills i s c) (sym one);
            refusal = λ _. ap (λ (i : ℕ). silent c i c.work) is;
            fills = λ z. absurd (omega (arith, one, z));
            answers = λ z. absurd (omega (arith, one, z));
          }

  module _ (none : portion_number s c ≡ 0) where
    pub fills : (k : ℕ) (v : List ℕ) → 0 < open_cells s → k ≡ min c.most (open_cells s) → PartFilled s.tables c.work v p.filled (p.filled + k)
        → Portioned s c (portion_done (record { planner = with_filled p (p.filled + k); told = Ok tt; filled = k; count = 0 }) c.output v)
    fills k v left is f =
        let count : p.filled + k ≡ count_by 0 s c = rw (ne_eqb (open_cells s) 0 (λ z. absurd (omega (arith, left, z)))) (ap (λ (i : ℕ). p.filled + i) is) in
        record {
          state = counted (p.filled + k) 0 none count;
          filled = is ∙ ap (λ (i : ℕ). portion_fills i s c) (sym none);
          refusal = λ l. absurd (omega (arith, none, l));
          fills = λ _ _. record { silence = refl; below = f.below; above = f.above; holds = f.holds };
          answers = λ _ z. absurd (omega (arith, left, z));
        }

    pub answers : (r : Portion) (o w : List ℕ) → open_cells s ≡ 0 → Answered p (plan_call c) r o w → Portioned s c (portion_done r o w)
    answers r o w shut a =
        let over : 0 ≡ count_by 0 s c = rw (eq-eqb (open_cells s) 0 shut) in
        let fills : 0 ≡ min c.most (open_cells s) = omega (arith, shut) in
        record {
          state = ap (λ (q : Planner). held q) a.planner ∙ counted 0 0 none over;
          filled = a.filled ∙ fills ∙ ap (λ (i : ℕ). portion_fills i s c) (sym none);
          refusal = λ l. absurd (omega (arith, none, l));
          fills = λ _ l. absurd (omega (arith, shut, l));
          answers = λ _ _. a.answers;
        }

-- ---- the answer, by the outcome that was read
-- its number and its text
abbrev number_by : Outcome → ℕ
number_by nothing = no.none_fits
number_by no_set = no.none_fits
number_by (planned es) = 0

abbrev text_by : Tables → Outcome → List ℕ
text_by t nothing = refused no.none_fits
text_by t no_set = refused no.none_fits
text_by t (planned es) = plan_text t es

reply-by : (t : Tables) (c : Call) (o : Outcome) → cleared t c (number_by o) (text_by t o) ≡ outcome_reply t c o
reply-by t c nothing = refl
reply-by t c no_set = refl
reply-by t c (planned es) = refl

text-fits : (t : Tables) → Limits t → (o : Outcome) → outcome_in (range_of t) o ≡ true → length (text_by t o) ≤ run_bytes
unfolding plan_text
text-fits t h nothing e = omega (arith, refused-fits no.none_fits (lit≤ tt))
text-fits t h no_set e = omega (arith, refused-fits no.none_fits (lit≤ tt))
text-fits t h (planned es) e = lines_fit t h es (lines-in (range_of t) es e)

-- a run in range for the tables of a planner, or none
pub record Read (p : Planner) (run : Option Run) : Type 0 where
  pub states : length (stored_found run).run.states ≡ max_loads
  pub rules : length (stored_found run).run.load_rules ≡ max_loads
  pub rows : length (stored_found run).run.row_rules ≡ max_loads
  pub kept : keeps_outcome (held_range p.tables) (stored_found run) ≡ true

-- what was read from the work
pub read_from : (p : Planner) (run : Option Run)
    → ((x : Run) → run ≡ Some x → (length x.states ≡ max_loads) × (length x.load_rules ≡ max_loads) × (length x.row_rules ≡ max_loads))
    → {w : List ℕ} → ReadFrom p.tables w run → Read p run
unfolding run_of laid
read_from p None sized r = record { states = refl; rules = refl; rows = refl; kept = r.kept }
read_from p (Some x) sized r = let s = sized x refl in record { states = s.0; rules = s.1; rows = s.2; kept = r.kept }

-- a planner with the outcome of a run, or of none
abbrev storing : Planner → Option Run → Planner
storing p run = record { tables = p.tables; outcome = stored_found run; filled = p.filled }

by-run : (p : Planner) → Lawful p → (run : Option Run) → Lawful (storing p run)
    → let told = numbered (plan_answer p.tables.loads run) in let read = (state_in (storing p run)).outcome in
    (number_of told ≡ number_by read) × (text_of told (entries_shown run p.tables.loads.count) (saved (state_in p).tables) ≡ text_by (state_in p).tables read)
unfolding plan_answer tables_of
by-run p h None l = (refl, refl)
by-run p h (Some x) l =
    let q = storing p (Some x) in
    let some : q.outcome.status ≡ 0 → ⊥ = λ z. omega (arith, z) in
    let fits : q.outcome.status ≡ 1 → ⊥ = λ z. omega (arith, z) in
    (refl, text-is q l some fits ∙ ap (text_by (state_in p).tables) (sym (planned-is q l some fits)))

module _ (p : Planner) (h : Lawful p) (run : Option Run) (k : Read p run) where
  abbrev o : StoredOutcome
  o = stored_found run

  abbrev t : Tables
  t = (state_in p).tables

  -- the planner with it
  abbrev q : Planner
  q = storing p run

  q-lawful : Lawful q
  q-lawful = kept_by (held q) h.tables k.states k.rules k.rows k.kept h.filled

  -- the outcome on paper
  abbrev read : Outcome
  read = (state_in q).outcome

  inside : outcome_in (range_of t) read ≡ true
  inside = (kept-within (held q) q-lawful).outcome

  something : is_nothing read ≡ false
  something = go run
    where
      go : (f : Option Run) → is_nothing (outcome_of (length t.loads) (stored_found f)) ≡ false
      go None = refl
      go (Some x) = refl

  -- what is answered, its number and its text
  abbrev pub told : Result Answer ℕ
  told = numbered (plan_answer p.tables.loads run)

  abbrev pub to_write : List ℕ
  to_write = text_of told (entries_shown run p.tables.loads.count) (saved t)

  number-and-text : (number_of told ≡ number_by read) × (to_write ≡ text_by t read)
  number-and-text = by-run p h run q-lawful

  pub text-few : length to_write ≤ run_bytes
  text-few = rw number-and-text.1 (text-fits t (kept-within (held p) h).tables read inside)

  -- it was written, and the work was cleared
  pub answered : (c : Call) → PlanCall t c → (Holding t c.work (cells_of t) → o ≡ stored_outcome max_loads (found (best_plan t) (plan_entries t)))
      → (m w : List ℕ) (i n : ℕ) → i ≡ number_of told
      → Wrote (take (length c.output - c.place) (drop c.place c.output)) m 0 n to_write
      → w ≡ replicate (cells_of t) 0 ++ drop (cells_of t) c.work
      → Answers (state_in p) c (record { number = i; count = n; output = put_mid c.place (length c.output - c.place) c.output m; work = w })
  unfolding zeroed
  answered c room right m w i n number wrote emptied =
      let given = number ∙ number-and-text.0 in
      let text = number-and-text.1 in
      let count : n ≡ length (text_by t read) = omega (arith, wrote.end, ap length text) in
      let output = free_back c.place c.output m (omega (arith, room.enough.free)) wrote ∙ ap (sets c.output c.place) text in
      let same : ◌≡◌ {A = Reply} _ (cleared t c (number_by read) (text_by t read)) = λ j. record { number = given j; count = count j; output = output j; work = emptied j } in
      answers_by (state_in p) c room read something inside (λ hold. ap (λ (s : State). s.outcome) (storing-state p h o (right hold))) _ (same ∙ reply-by t c read)
