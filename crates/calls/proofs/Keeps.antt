-- Every line keeps the limits and the places for loads, and every answer fits. Assumes nothing.
use Prim.Native.Nat.{ℕ, zero, suc, ◌≤◌}
use mathlib.Core.Path.{◌≡◌, refl, sym, subst}
use mathlib.Core.Bool.{Bool, true, false}
use native.Mathlib.Omega.{arith}
use lib.Dec.{lit<, eqb}
use lib.ListN.{length}
use Rattle.lists.specs.Tests.{pick}
use Rattle.lines.proofs.Answers.{refused-fits}
use Rattle.tables.specs.Refusals as no
use Rattle.runs.specs.Outcome.{no_set, range_of, outcome_in}
use Rattle.calls.specs.State.{State, plain, Within}
use Rattle.calls.specs.Rows.{Row, changes, shows, works, bytes_of, causes_of}
use Rattle.calls.specs.Causes.{lowest, all_causes, refusal}
use Rattle.calls.specs.Effects.{acted, changed, state_by}
use Rattle.calls.specs.Printing.{text}
use Rattle.calls.specs.Calls.{Call, row_for, number_for, after, answer}
use Rattle.calls.proofs.Numbers.{passed}
use Rattle.calls.proofs.Rows.{Right, line-right}
use Rattle.calls.proofs.Refusals.{refusal-most, after-number, still-state}

-- no cause at all: none of the row
pub none-of-row : (n room place : ℕ) (r : Row) → refusal n room place r ≡ 0 → lowest (causes_of n r) ≡ 0
unfolding refusal all_causes
none-of-row n room place r e = (passed no.unusable _ _ (lit< tt) e).1

-- no line changes the limit of loads
pub after-places : (s : State) (c : Call) → (after s c).tables.places ≡ s.tables.places
unfolding changed
after-places s c = go (refusal 0 (length c.output) c.place (row_for p c))
  where
    p : State
    p = plain s.tables

    go : (n : ℕ) → (acted s.tables n (row_for (plain s.tables) c)).places ≡ s.tables.places
    go zero = (line-right (plain s.tables) 0 c.line).places
    go (suc n) = refl

-- the tables that a row leaves, and the outcome beside them, by its number
left-within : (s : State) → Within s → (cells n : ℕ) (r : Row) → Right s cells r → (n ≡ 0 → lowest (causes_of cells r) ≡ 0) → Within (state_by s n r)
unfolding outcome_in
left-within s h m zero (changes x) a e = record { tables = a.keeps h (e refl); outcome = refl; filled = omega arith }
left-within s h m (suc n) (changes x) a e = record { tables = h.tables; outcome = h.outcome; filled = h.filled }
left-within s h m n (shows b cs x) a e = subst Within (sym (still-state s n (shows b cs x) refl)) h
left-within s h m n (works false b k before after x) a e = subst Within (sym (still-state s n (works false b k before after x) refl)) h
left-within s h m zero (works true b k before after x) a e = record { tables = h.tables; outcome = a.finds h (e refl) refl; filled = h.filled }
left-within s h m (suc n) (works true b k before after x) a e = record { tables = h.tables; outcome = go (eqb (suc n) no.none_fits); filled = h.filled }
  where
    go : (b : Bool) → outcome_in (range_of s.tables) (pick b no_set s.outcome) ≡ true
    go true = refl
    go false = h.outcome

module _ (s : State) (h : Within s) where
  pub after-within : (c : Call) → Within (after s c)
  after-within c =
      let m = length c.work in
      subst Within (sym (after-number s c))
      (left-within s h m (number_for s c) (row_for s c) (line-right s m c.line) (none-of-row m (length c.output) c.place (row_for s c)))

  -- of a number of the table, and 0 only where no cause applies
  pub text-fits : (cells n : ℕ) {r : Row} → Right s cells r → n ≤ no.greatest → (n ≡ 0 → lowest (causes_of cells r) ≡ 0) → length (text n r) ≤ bytes_of r
  unfolding text
  text-fits cells zero x m e = (x.shown h (e refl)).fits
  text-fits cells (suc zero) x m e = omega arith
  text-fits cells (suc (suc n)) x m e = omega (arith, refused-fits (suc (suc n)) (omega arith), x.room)

  -- every answer fits
  pub answer-fits : (c : Call) → (answer s c).count ≤ bytes_of (row_for s c)
  unfolding answer
  answer-fits c =
      let x = line-right s (length c.work) c.line in
      text-fits (length c.work) _ x (refusal-most x (length c.output) c.place) (none-of-row (length c.work) (length c.output) c.place (row_for s c))
