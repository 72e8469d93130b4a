-- What `need` gives: the least budget, and 9 and 15 exactly in their cases; and it leaves the planner as it was. Assumes nothing.
use Prim.Native.Nat.{ℕ, ◌≤◌}
use mathlib.Core.Path.{◌≡◌, refl, sym, ap, subst, ◌∙◌}
use mathlib.Core.Bool.{Bool, true, false}
use mathlib.Core.List.{[], ◌∷◌}
use mathlib.Core.Logic.{◌⊎◌, inl, inr}
use native.Mathlib.Omega.{arith}
use borrow.Author.Tests.{ne_eqb, le-ltb}
use lib.ListN.{length}
use Rattle.lines.specs.declared.Command.TheVariants as line
use Rattle.lines.proofs.Sizes.{numbers-short}
use Rattle.tables.specs.Refusals as no
use Rattle.tables.specs.Tables.{Tables}
use Rattle.tables.specs.Limits.{need_in}
use Rattle.meaning.specs.Cells.{cells_of}
use Rattle.meaning.specs.Need.{none_fits, poorer, least_budget}
use Rattle.meaning.proofs.Need.{need-least, need-missed, need-found}
use Rattle.calls.specs.State.{State, StoredState, stored_state, state_of, Within, Kept}
use Rattle.calls.specs.Rows.{◌if◌, Row, row, causes_of, is_show}
use Rattle.calls.specs.Causes.{lowest, refusal}
use Rattle.calls.specs.Printing.{text, searched}
use Rattle.calls.specs.Calls.{Call, row_for, number_for, reply, cleared, answer, handled, called}
use Rattle.calls.specs.Need.{NeedCall, BudgetShown, NeedRight}
use Rattle.calls.proofs.State.{kept-within, kept-stored}
use Rattle.calls.proofs.Answers.{refused_if, last-cause, roomy, row_is, answer_at, called-kept}
use Rattle.calls.proofs.Work.{row-zeroed}
use Rattle.calls.proofs.Refusals.{shown-keeps}
use Rattle.calls.proofs.Plans.{none-fits}

-- ---- its number where none from 1 to 8 applies: by whether no set fits, and whether the plan is worth less
abbrev pub number_by : (none poor : Bool) → ℕ
number_by true b = no.none_fits
number_by false b = refused_if no.too_poor b

number_by_lem : (a b : Bool) → lowest ((no.none_fits if a) ∷ (no.too_poor if b) ∷ []) ≡ number_by a b
unfolding lowest
number_by_lem true b = refl
number_by_lem false b = last-cause no.too_poor b

-- each of them is given exactly in its case, and after each the cells are 0
nine-by : (a b : Bool) → number_by a b ≡ no.none_fits → a ≡ true
nine-by true b e = refl
nine-by false true e = absurd (omega arith)
nine-by false false e = absurd (omega arith)

fifteen-by : (a b : Bool) → number_by a b ≡ no.too_poor → (a ≡ false) × (b ≡ true)
fifteen-by true b e = absurd (omega arith)
fifteen-by false true e = (refl, refl)
fifteen-by false false e = absurd (omega arith)

pub searched-by : (a b : Bool) → searched (number_by a b) ≡ true
searched-by true b = refl
searched-by false true = refl
searched-by false false = refl

module _ (s : State) (v cells : ℕ) (loads : length s.tables.loads ≡ 0 → ⊥) (value : need_in s.tables.places v ≡ true) (room : cells_of s.tables ≤ cells) where
  pub need-lowest : lowest (causes_of cells (row s (line.Need v))) ≡ number_by (none_fits s.tables) (poorer s.tables v)
  unfolding row lowest
  need-lowest = rw (ne_eqb (length s.tables.loads) 0 loads, value, le-ltb cells (cells_of s.tables) room) (number_by_lem (none_fits s.tables) (poorer s.tables v))

-- ---- a call on `need`
module _ (s : State) (h : Within s) (v : ℕ) (c : Call) (k : NeedCall s.tables v c) where
  abbrev t : Tables
  t = s.tables

  abbrev r : Row
  r = row s (line.Need v)

  need-row : row_for s c ≡ r
  need-row = row_is s c (line.Need v) k.line (numbers-short c.line (line.Need v) k.line refl)

  need-number : number_for s c ≡ number_by (none_fits t) (poorer t v)
  unfolding row
  need-number =
      ap (refusal (length c.work) (length c.output) c.place) need-row ∙ roomy (length c.work) (length c.output) c.place r k.free
      ∙ need-lowest s v (length c.work) (λ e. absurd (omega (arith, k.loads))) k.value k.cells

  -- what it answers
  module _ (a b : Bool) (e : none_fits t ≡ a) (q : poorer t v ≡ b) where
    abbrev n : ℕ
    n = number_by a b

    number_is : number_for s c ≡ n
    number_is = need-number ∙ rw (e, q)

    answered : answer s c ≡ cleared t c n (text n r)
    unfolding row
    answered = answer_at s c n r number_is need-row ∙ ap (reply c n (text n r)) (row-zeroed n r c.work (searched-by a b))

  given : {n : ℕ} → (answer s c).number ≡ n → number_by (none_fits t) (poorer t v) ≡ n
  unfolding answer
  given e = sym need-number ∙ e

  least-shown : none_fits t ≡ false → poorer t v ≡ false → BudgetShown t v c (answer s c) (least_budget t v)
  unfolding row text
  least-shown e q = record { least = need-least t h.tables v e q; answered = answered false false e q }

  one_of : (a b : Bool) → none_fits t ≡ a → poorer t v ≡ b
      → ((answer s c).number ≡ no.none_fits) ⊎ ((answer s c).number ≡ no.too_poor) ⊎ ((b : ℕ) × BudgetShown t v c (answer s c) b)
  unfolding answer
  one_of true b e q = inl (number_is true b e q)
  one_of false true e q = inr (inl (number_is false true e q))
  one_of false false e q = inr (inr (least_budget t v, least-shown e q))

  pub need-right : NeedRight t v (stored_state s) c (handled s c)
  unfolding answer text row
  need-right =
      let none = none-fits t h.tables in
      let poor = need-found t h.tables v in
      record {
        answered = one_of (none_fits t) (poorer t v) refl refl;
        nine = (λ e. none.0 (nine-by (none_fits t) (poorer t v) (given e)), λ z. number_is true (poorer t v) (none.1 z) refl);
        no_set = λ z. answered true (poorer t v) (none.1 z) refl;
        fifteen = (
          λ e. let p = fifteen-by (none_fits t) (poorer t v) (given e) in need-missed t h.tables v p.0 p.1,
          λ m. number_is false true (poor m).0 (poor m).1,
        );
        poor = λ m. answered false true (poor m).0 (poor m).1;
        planner = ap stored_state (shown-keeps s c (ap is_show need-row));
      }

-- on every planner that keeps the limits
pub need-called : {n : ℕ} (p : StoredState) → Kept n p → (v : ℕ) (c : Call) → NeedCall (state_of p).tables v c → NeedRight (state_of p).tables v p c (called p c)
need-called p h v c k =
    let t = (state_of p).tables in
    subst (λ (x : StoredState). NeedRight t v x c (called p c)) (sym (kept-stored p h))
    (subst (NeedRight t v (stored_state (state_of p)) c) (sym (called-kept p h c)) (need-right (state_of p) (kept-within p h) v c k))
