-- Request Six of the code: what the promises of `draw` and of `stretch` come to, on any planner and after every list of calls. Assumes nothing.
use Prim.Native.Nat.{ℕ, zero, suc, ◌+◌, ◌-◌, ◌≤◌, ◌<◌}
use mathlib.Core.Path.{◌≡◌, refl, sym, ap, subst, ◌∙◌}
use mathlib.Core.Bool.{Bool, true, false}
use mathlib.Core.List.{List, [], ◌++◌}
use mathlib.Core.Logic.{◌⊎◌, inl, inr}
use native.Mathlib.Omega.{arith}
use borrow.Author.Tests.{eqb-true, leb-true}
use lib.Dec.{leb}
use lib.ListN.{length, get_or, take, drop}
use Rattle.lists.proofs.Bools.{and_left}
use Rattle.tables.specs.declared.refusal.Refusal.TheVariants.{NoPlan}
use Rattle.tables.specs.Refusals as no
use Rattle.tables.specs.Tables.{Tables, no_load}
use Rattle.tables.specs.Limits.{max_loads}
use Rattle.tables.proofs.Lawful.{lawful}
use Rattle.tables.specs.declared.entry.Entry.{Entry}
use Rattle.meaning.specs.Sets.{worth, power, NoneFits}
use Rattle.meaning.specs.Best.{best_plan}
use Rattle.meaning.specs.Choice.{plan_entries, shown_set}
use Rattle.meaning.specs.Claims.{PlanShown}
use Rattle.meaning.proofs.Claims.{claims}
use Rattle.runs.specs.Outcome.{no_set, planned, found, is_nothing}
use Rattle.calls.specs.State.{State, StoredState, stored_state, state_of, Within}
use Rattle.calls.specs.Rows.{is_load}
use Rattle.calls.specs.Last.{current, kept_outcome}
use Rattle.calls.specs.Demand3.{Event, History, last, paper, Demand3}
use Rattle.calls.proofs.State.{few-loads, state-stored, keeps-stored}
use Rattle.calls.proofs.Fits.{worth-most}
use Rattle.planner.specs.declared.Planner.{Planner}
use Rattle.planner.specs.Planner as planner
use Rattle.planner.specs.Planner.{held}
use Rattle.planner.proofs.Demands.{demand3}
use Rattle.page.specs.Rows.{page_bytes, load_row_count, worth_digits, power_digits, number_digits, plan_row, no_plan_row, row_of, load_rows}
use Rattle.page.specs.Drawing.{page_of, Drawn, drawn_of, drawing}
use Rattle.page.specs.Stretch.{row_at, is_page}
use Rattle.page.specs.Claims.{DrawingRight, LoadShown, PlanPage, NoPlanPage, PageRight, PagesRight, StretchRight}
use Rattle.page.proofs.Digits.{digits-read}
use Rattle.page.proofs.RowText.{plan-length, no-plan-length, row-there, row-missing}
use Rattle.page.proofs.Drawn.{no-plan, unrefused, refused-drawing, done-drawing}
use Rattle.page.proofs.Pages.{row_first, row_next, row-of-loads, plan-worth, plan-power, load-number, load-mark, load-power}
use Rattle.page.proofs.Drawings as drawings
use Rattle.page.proofs.Stretches as stretches

-- a drawing of every planner, whatever it holds
pub drawing-right : (p : Planner) (k : ℕ) (page : List ℕ) (d : Drawn) → d ≡ drawing (held p) k page → DrawingRight (held p) k page d
drawing-right p k page d is = subst (DrawingRight (held p) k page) (sym is) (drawings.drawing-right (held p) k page)

-- a stretch of any two pages
pub stretch-right : (glass drawn : List ℕ) → StretchRight glass drawn
stretch-right = stretches.stretch-right

-- ---- the page of a state
module _ (s : State) (h : Within s) (k : ℕ) (low : 1 ≤ k) where
  abbrev t : Tables
  t = s.tables

  -- after refusal 9
  none-page : s.outcome ≡ no_set → NoPlanPage (page_of s k)
  unfolding page_of
  none-page e =
      let σ = shown_set [] in
      rw e record {
        first = row_first no_plan_row (load_rows [] σ k load_row_count) no-plan-length;
        loads = λ i l. row_next no_plan_row (load_rows [] σ k load_row_count) i no-plan-length ∙ row-of-loads [] σ k load_row_count i l ∙ row-missing [] σ (k + i) (omega (arith, low));
      }

  -- of a plan that fits
  module _ (es : List Entry) (fits : power t (shown_set es) ≤ t.budget) where
    abbrev σ : ℕ → ℕ
    σ = shown_set es

    abbrev first : List ℕ
    first = plan_row (worth t σ) (power t σ)

    abbrev below : List ℕ
    below = load_rows t.loads σ k load_row_count

    small-worth : worth t σ < 1000000
    small-worth = omega (arith, worth-most t (lawful t h.tables) σ, few-loads t h.tables, (lawful t h.tables).places)

    small_power : power t σ < 1000
    small_power = omega (arith, fits, (lawful t h.tables).budget)

    row_one : row_at (first ++ below) 0 ≡ first
    row_one = row_first first below (plan-length (worth t σ) (power t σ))

    row_is : (i : ℕ) → i < load_row_count → row_at (first ++ below) (suc i) ≡ row_of t.loads σ (k + i)
    row_is i l = row_next first below i (plan-length (worth t σ) (power t σ)) ∙ row-of-loads t.loads σ k load_row_count i l

    load-shown : (i : ℕ) → i < load_row_count → k + i ≤ length t.loads → LoadShown t σ (first ++ below) (suc i) (k + i)
    load-shown i l m =
        let w = (get_or t.loads (k + i - 1) no_load).power in
        let row = row_is i l ∙ row-there t.loads σ (k + i) (omega (arith, low)) m in
        let small : w < 1000 = omega (arith, ((lawful t h.tables).load (k + i - 1) (omega (arith, m, low))).power) in
        record {
          number = digits-read number_digits (k + i) (omega (arith, m, few-loads t h.tables, (lawful t h.tables).places)) (ap (λ (r : List ℕ). take 3 (drop 0 r)) row ∙ load-number (k + i) (σ (k + i)) w);
          mark = ap (λ (r : List ℕ). take 3 (drop 4 r)) row ∙ load-mark (k + i) (σ (k + i)) w;
          power = digits-read power_digits w small (ap (λ (r : List ℕ). take 3 (drop 8 r)) row ∙ load-power (k + i) (σ (k + i)) w);
        }

    plan-page : s.outcome ≡ planned es → PlanPage t σ k (page_of s k)
    unfolding page_of
    plan-page e =
        rw e record {
          worth = digits-read worth_digits (worth t σ) small-worth (ap (λ (r : List ℕ). take 6 (drop 6 r)) row_one ∙ plan-worth (worth t σ) (power t σ));
          power = digits-read power_digits (power t σ) small_power (ap (λ (r : List ℕ). take 3 (drop 13 r)) row_one ∙ plan-power (worth t σ) (power t σ));
          loads = load-shown;
          missing = λ i l m. row_is i l ∙ row-missing t.loads σ (k + i) m;
        }

-- ---- after a list of calls
module _ (n : ℕ) (xs : List Event) (d3 : Demand3 n xs) (k : ℕ) (page : List ℕ) (sized : is_page page ≡ true) (there : is_load (paper n xs).tables k ≡ true) where
  abbrev s : State
  s = paper n xs

  state : state_of (stored_state s) ≡ s
  state = state-stored s d3.limits

  size : length page ≡ page_bytes
  size = eqb-true (length page) page_bytes sized

  low : 1 ≤ k
  low = leb-true 1 k (and_left (leb 1 k) (leb k (length s.tables.loads)) there)

  known : is_load (state_of (stored_state s)).tables k ≡ true
  known = ap (λ (x : State). is_load x.tables k) state ∙ there

  outcome : (b : Bool) → current false xs ≡ b → s.outcome ≡ kept_outcome b s.tables
  outcome b e = d3.outcome ∙ ap (λ (b : Bool). kept_outcome b s.tables) e

  old : current false xs ≡ false → drawing (stored_state s) k page ≡ drawn_of no.no_plan page
  old e = sym (refused-drawing (stored_state s) k page NoPlan (no-plan (stored_state s) k (length page) size (keeps-stored s d3.limits) known (ap (λ (x : State). is_nothing x.outcome) state ∙ ap is_nothing (outcome false e))))

  -- with an outcome
  new : is_nothing s.outcome ≡ false → drawing (stored_state s) k page ≡ drawn_of 0 (page_of s k)
  new e =
      sym (done-drawing (stored_state s) k page (unrefused (stored_state s) k (length page) size (keeps-stored s d3.limits) known (ap (λ (x : State). is_nothing x.outcome) state ∙ e))
      (ap (λ (x : State). page_of x k) (sym state)))

  some-outcome : current false xs ≡ true → is_nothing s.outcome ≡ false
  some-outcome e = ap is_nothing (outcome true e) ∙ go (best_plan s.tables)
    where
      go : (v : ℕ) → is_nothing (found v (plan_entries s.tables)) ≡ false
      go zero = refl
      go (suc v) = refl

  right : PageRight n xs k page (drawing (stored_state s) k page)
  right = record {
    old = old;
    drawn = λ e. ap (λ (d : Drawn). d.number) (new (some-outcome e));
    shown = λ e. rw (new (some-outcome e)) (go e (best_plan s.tables) refl);
  }
    where
      go : current false xs ≡ true → (v : ℕ) → best_plan s.tables ≡ v → (PlanShown s.tables (plan_entries s.tables) × PlanPage s.tables (shown_set (plan_entries s.tables)) k (page_of s k))
          ⊎ (NoneFits s.tables × NoPlanPage (page_of s k))
      go e zero z = inr ((claims s.tables d3.limits.tables).refused.0 z, none-page s d3.limits k low (outcome true e ∙ ap (λ (v : ℕ). found v (plan_entries s.tables)) z))
      go e (suc v) z =
          let p = (claims s.tables d3.limits.tables).planned (omega (arith, z)) in
          inl (p, plan-page s d3.limits k low (plan_entries s.tables) p.optimum.fits (outcome true e ∙ ap (λ (v : ℕ). found v (plan_entries s.tables)) z))

-- after every list of lines from a fresh planner: the page of the plan that is current, or 12
pub page-right : (xs : List Event) → History (held planner.fresh) xs → PagesRight max_loads xs (last (held planner.fresh) xs)
page-right xs y k page sized there d is =
    let d3 = demand3 xs y in
    subst (PageRight max_loads xs k page) (sym (is ∙ ap (λ (p : StoredState). drawing p k page) d3.state)) (right max_loads xs d3 k page sized there)
