-- What a decided answer has: the number that was given, and the text of paper 01; and what a change decides. Assumes nothing.
use Rattle.std.specs.Prelude.{None, Ok, Err}
use Prim.Native.Nat.{ℕ, zero, suc}
use mathlib.Core.Path.{◌≡◌, refl, sym, ap, subst, ◌∙◌}
use mathlib.Core.Bool.{Bool, true, false}
use mathlib.Core.List.{List}
use lib.ListN.{length}
use Rattle.lines.specs.declared.SaveForm.{SaveForm}
use Rattle.lines.specs.declared.Change.{Change}
use Rattle.lines.specs.declared.Command.{Command}
use Rattle.lines.specs.declared.Command.TheVariants.{Save}
use Rattle.lines.specs.declared.answer.Answer.TheVariants.{Saved}
use Rattle.lines.specs.Grammar.{line_command}
use Rattle.lines.specs.Saved.{saved, loses_kinds}
use Rattle.lines.specs.Answers.{number_of, answer_of, text_of}
use Rattle.tables.specs.declared.refusal.Refusal.TheVariants.{KindsInUse}
use Rattle.tables.specs.Limits.{max_loads}
use Rattle.tables.specs.Kinds.{has_kinds}
use Rattle.calls.specs.State.{State, StoredState, stored_state, Within}
use Rattle.calls.specs.Rows.{Row, changes, changing, row, line_row, bytes_of, causes_of, cells_for}
use Rattle.calls.specs.Causes.{lowest}
use Rattle.calls.specs.Effects.{state_by}
use Rattle.calls.specs.Printing.{shown_by, text}
use Rattle.calls.specs.Demand1.{bytes_for}
use Rattle.calls.proofs.State.{kept-stored}
use Rattle.calls.proofs.Rows.{Right}
use Rattle.calls.proofs.Work.{no_cells}
use Rattle.calls.proofs.ByCommand.{row-bytes}
use Rattle.planner.specs.declared.Planner.{Planner}
use Rattle.planner.specs.declared.changes.Changed.{Changed}
use Rattle.planner.specs.declared.search.Decided.{Decided}
use Rattle.planner.specs.Planner.{held, planner_of, state_in, Lawful}
use Rattle.planner.specs.Changes.{ChangedBy}
use Rattle.planner.specs.Decided.{save_answer, unshown, entries_shown, run_shown, Decision, decision, decided_by, decided, Decides}
use Rattle.planner.proofs.RunLines.{shown-lines}

-- ---- the answer
module _ {s : State} {cells : ℕ} {r : Row} (x : Right s cells r) where
  pub answered-number : (n : ℕ) → number_of (shown_by n r).answer ≡ n
  answered-number zero = x.accepts
  answered-number (suc n) = refl

  -- 0 is given only where no cause applies, and 1 is not given here
  pub answered-text : Within s → s.tables.places ≡ max_loads → (n : ℕ) → (n ≡ 0 → lowest (causes_of cells r) ≡ 0) → (n ≡ 1 → ⊥)
      → text_of (shown_by n r).answer (entries_shown (run_shown (shown_by n r).answer (shown_by n r).entries) (length s.tables.loads)) (saved s.tables) ≡ text n r
  unfolding text
  answered-text h places zero e d = shown-lines s.tables h.tables places (shown_by 0 r) (x.shown h (e refl)).lists
  answered-text h places (suc zero) e d = absurd (d refl)
  answered-text h places (suc (suc n)) e d = refl

-- ---- the command that was read is the line's
module _ (s : State) (l : List ℕ) {c : Command} (read : c ≡ line_command l) where
  line_row_is : row s c ≡ line_row s l
  unfolding line_row
  line_row_is = ap (row s) read

  pub line-bytes : bytes_for c ≡ bytes_of (line_row s l)
  line-bytes = sym (row-bytes s c) ∙ ap bytes_of line_row_is

  pub line-decides : {w v : List ℕ} {d : Decided} → Decides s (row s c) w v d → Decides s (line_row s l) w v d
  line-decides {w} {v} {d} = subst (λ (r : Row). Decides s r w v d) line_row_is

-- ---- a row that works in no cells leaves the work as it was
pub works-in-none : (s : State) (r : Row) (w : List ℕ) {d : Decided} → cells_for r ≡ 0 → decision d ≡ decided s (length w) r → Decides s r w w d
works-in-none s r w e is = record { answer = is; work = sym (no_cells _ r w e) }

-- a change: it shows nothing but `ok`
pub change-done : (s : State) (c : Change) (w : List ℕ) {x : Changed} {d : Decided} → ChangedBy s c x → d ≡ unshown x.answer x.planner
    → Decides s (changes (changing s.tables c)) w w d
unfolding decided_by
change-done s c w {x} made is =
    works-in-none s (changes (changing s.tables c)) w refl
    (ap decision is ∙ (λ i. record { answer = made.answer i; run = None; planner = made.planner i }) ∙ go (lowest (changing s.tables c).causes))
  where
    go : (n : ℕ) → ◌≡◌ {A = Decision} (record { answer = answer_of n; run = None; planner = planner_of (stored_state (state_by s n (changes (changing s.tables c)))) }) (decided_by s n (changes (changing s.tables c)))
    go zero = refl
    go (suc n) = refl

-- a save: one cause, and the planner as it was
pub save-done : (p : Planner) → Lawful p → (f : SaveForm) → decision (unshown (save_answer f (has_kinds (state_in p).tables)) p) ≡ decided (state_in p) 0 (row (state_in p) (Save f))
unfolding row lowest decided_by save_answer
save-done p h f = go (loses_kinds f (state_in p).tables) refl
  where
    go : (b : Bool) → loses_kinds f (state_in p).tables ≡ b → decision (unshown (save_answer f (has_kinds (state_in p).tables)) p) ≡ decided (state_in p) 0 (row (state_in p) (Save f))
    go true e = rw e (ap (λ (k : StoredState). decision (unshown (Err KindsInUse) (planner_of k))) (kept-stored (held p) h))
    go false e = rw e (ap (λ (k : StoredState). decision (unshown (Ok (Saved f)) (planner_of k))) (kept-stored (held p) h))
