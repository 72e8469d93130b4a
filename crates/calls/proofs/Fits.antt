-- Every answer fits the bytes that must be free. Assumes nothing.
use Prim.Native.Nat.{ℕ, zero, suc, ◌+◌, ◌*◌, ◌≤◌, ◌<◌, zero-le}
use mathlib.Core.Path.{◌≡◌}
use mathlib.Core.Bool.{Bool, true, false}
use mathlib.Core.List.{List, [], ◌∷◌}
use native.Mathlib.Nat.{mul-suc}
use native.Mathlib.Omega.{arith}
use borrow.Author.Tests.{eqb-false}
use lib.Dec.{lit≤, eqb}
use lib.ListN.{length, get_or}
use Rattle.lists.specs.Each.{none, more}
use Rattle.lists.proofs.Each.{each_all}
use Rattle.lists.specs.Argmax.{guard}
use Rattle.lines.specs.Answers.{run_bytes, Ranged, AllRanged}
use Rattle.lines.proofs.Answers.{plan-fits, check-fits}
use Rattle.tables.specs.declared.load.Load.{Load}
use Rattle.tables.specs.Tables.{Tables, no_load}
use Rattle.tables.specs.declared.rule.Sort.TheVariants as sort
use Rattle.tables.specs.Limits.{max_power, max_worth, most_places, Limits}
use Rattle.tables.specs.Lawful.{Lawful}
use Rattle.tables.proofs.Lawful.{lawful}
use Rattle.meaning.specs.Forest.{IsTree, sum}
use Rattle.meaning.specs.Sets.{counted, power, worth, number_on}
use Rattle.meaning.specs.Best.{best_plan}
use Rattle.tables.specs.declared.entry.Entry.{Entry}
use Rattle.meaning.specs.Choice.{no_entry, find, in_order, check, plan_entries, check_entries, shown_set}
use Rattle.meaning.specs.Need.{none_fits}
use Rattle.meaning.proofs.Ranges.{Bounded, check-bounded}
use Rattle.meaning.proofs.Entries.{Listed, check-listed}
use Rattle.meaning.proofs.InOrder.{listed-length}
use Rattle.meaning.proofs.Ordered.{loads-ordered}
use Rattle.runs.specs.Outcome.{planned, range_of, outcome_in}
use Rattle.runs.proofs.Entries.{number_at}
use Rattle.runs.proofs.Stored as outcomes
use Rattle.runs.proofs.Stored.{LinesIn, lines-in, named_in}
use Rattle.calls.specs.Rows.{showing_plan, showing_check, shown_text}
use Rattle.calls.proofs.Answers.{positive}

-- ---- load lines
ranged : (es : List Entry) → ((i : ℕ) → Bounded (find es i)) → (k n : ℕ) → ((i : ℕ) → k ≤ i → i < k + n → (find es i).number < 1000)
    → AllRanged (in_order es k n)
unfolding in_order
ranged es b k zero h = none
ranged es b k (suc n) h =
    more (record { number = h k (omega arith) (omega arith); mark = (b k).mark; state = (b k).state; rule = (b k).rule; row = (b k).row })
    (ranged es b (suc k) n (λ i c d. h i (omega arith) (omega arith)))

all-ranged : (es : List Entry) (n : ℕ) → n < 1000 → Listed es n → ((i : ℕ) → Bounded (find es i)) → AllRanged (in_order es 1 n)
all-ranged es n few l b = ranged es b 1 n (λ i c d. omega (arith, l.number i c (omega arith)))

-- ---- the figures of a set
sum-most : (w : ℕ → Load → ℕ) (m : ℕ) (ls : List Load) (k : ℕ) → ((j : ℕ) → j < length ls → (n : ℕ) → w n (get_or ls j no_load) ≤ m) → sum w ls k ≤ m * length ls
unfolding sum
sum-most w m [] k f = zero-le
sum-most w m (l ∷ ls) k f = omega (arith, mul-suc m (length ls), f 0 (omega arith) k, sum-most w m ls (suc k) (λ j b. f (suc j) (omega arith)))

counted-most : (m x b : ℕ) → x ≤ b → counted m x ≤ b
counted-most zero x b h = zero-le
counted-most (suc m) x b h = h

one-most : (b : Bool) → guard b 1 ≤ 1
one-most true = lit≤ tt
one-most false = lit≤ tt

module _ (t : Tables) (h : Lawful t) (σ : ℕ → ℕ) where
  all-power : power t σ < 1000000
  all-power = omega (arith, sum-most (λ k l. counted (σ k) l.power) max_power t.loads 1 (λ j l n. counted-most (σ n) _ max_power (h.load j l).power))

  pub worth-most : worth t σ ≤ max_worth * length t.loads
  worth-most = sum-most (λ k l. counted (σ k) l.worth) max_worth t.loads 1 (λ j l n. counted-most (σ n) _ max_worth (h.load j l).worth)

  all-worth : worth t σ < 1000000
  all-worth = omega (arith, worth-most)

  all-on : number_on t σ < 1000
  all-on = omega (arith, sum-most (λ k l. guard (eqb (σ k) 1) 1) 1 t.loads 1 (λ j l n. one-most (eqb (σ n) 1)))

-- ---- answers
module _ (t : Tables) (h : Limits t) where
  w : Lawful t
  w = lawful t h

  listed : IsTree t.loads
  listed = loads-ordered t.loads w.load

  few : length t.loads ≤ most_places
  few = omega (arith, w.loads, w.places)

  pub check-ranged : (σ : ℕ → ℕ) → AllRanged (check_entries t σ)
  unfolding check_entries
  check-ranged σ = all-ranged (check t σ) (length t.loads) (omega (arith, few)) (check-listed t listed σ) (check-bounded t w σ)

  check-few : (σ : ℕ → ℕ) → 14 * length (check_entries t σ) + 23 ≤ run_bytes
  unfolding check_entries
  check-few σ = omega (arith, few, listed-length (check t σ) (length t.loads) (check-listed t listed σ))

  -- the lines of a plan that is in range
  module _ (es : List Entry) (l : LinesIn (range_of t) es) where
    figures : (i : ℕ) → i < length es → Ranged (get_or es i no_entry)
    figures i b =
        let f = named_in (range_of t) (get_or es i no_entry) (l.figures i b) in
        record {
          number = omega (arith, number_at es 1 i l.each b, l.all, few);
          mark = l.marks i b;
          state = omega (arith, f.state, w.states);
          rule = omega (arith, f.rule, w.rules sort.Load);
          row = omega (arith, f.row, w.rules sort.Row);
        }

    pub lines-ranged : AllRanged es
    lines-ranged = each_all no_entry es figures

    pub lines_fit : length (shown_text (showing_plan t es)) ≤ run_bytes
    lines_fit =
        let σ = shown_set es in
        plan-fits es lines-ranged (omega (arith, l.all, few)) (worth t σ) (power t σ) (number_on t σ) (all-worth t w σ) (all-power t w σ) (all-on t w σ)

  pub plan-in : none_fits t ≡ false → outcome_in (range_of t) (planned (plan_entries t)) ≡ true
  unfolding none_fits
  plan-in e = outcomes.plan-in t h (positive (eqb-false (best_plan t) 0 e))

  pub planned-fits : none_fits t ≡ false → length (shown_text (showing_plan t (plan_entries t))) ≤ run_bytes
  planned-fits e = lines_fit (plan_entries t) (lines-in (range_of t) (plan_entries t) (plan-in e))

  pub checked-fits : (σ : ℕ → ℕ) → length (shown_text (showing_check (check_entries t σ))) ≤ run_bytes
  checked-fits σ = check-fits (check_entries t σ) (check-ranged σ) (check-few σ)
