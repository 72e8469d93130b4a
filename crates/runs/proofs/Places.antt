-- The test of an outcome place by place, as the code goes, is the test of its limits. Assumes nothing.
use Prim.Native.Nat.{ℕ, zero, suc, ◌≤◌, ◌<◌}
use mathlib.Core.Path.{◌≡◌, refl, sym, ◌∙◌}
use mathlib.Core.Bool.{Bool, true, false, ◌&&◌, ◌||◌}
use mathlib.Core.List.{[], ◌∷◌, ◌++◌}
use mathlib.Core.Logic.{◌⊎◌, inl, inr}
use native.Mathlib.Omega.{arith}
use borrow.Author.Tests.{eq-eqb, ne_eqb, leb-true, le-leb, lt-ltb, le-ltb}
use lib.Dec.{eqb, leb, ltb}
use lib.ListN.{length, get_or, get_or-eq_default, get_or-append}
use lib.Seq.{get_or_at}
use Rattle.lists.specs.Tests.{every_from}
use Rattle.lists.proofs.Bools.{and_left, and_right, and-false, same_test, below_or}
use Rattle.lists.proofs.Tests.{every_drop, drop-every, from_each, from_at, below-zero, below_at, below_all}
use Rattle.lists.specs.Argmax.{guard}
use Rattle.marks.specs.Sets.{has_load, loads_up_to}
use Rattle.tables.specs.Limits.{between, max_loads}
use Rattle.tables.specs.declared.entry.Entry.{Entry}
use Rattle.meaning.specs.Runs.{row_rule_in}
use Rattle.meaning.specs.Choice.{no_entry}
use Rattle.runs.specs.declared.run.Run.{Run}
use Rattle.runs.specs.declared.outcome.RunRange.{RunRange}
use Rattle.runs.specs.Runs.{entry_at, entries_to}
use Rattle.runs.specs.Outcome.{planned, figures_in, entry_in, outcome_in, used_by, of_status, zero_from, run_free}
use Rattle.runs.specs.Places.{figures_keep}
use Rattle.runs.proofs.Entries.{entries-length}

-- ---- how many places are in use
pub used-some : (n k : ℕ) → 2 ≤ k → n ≡ used_by n k
used-some n zero h = absurd (omega arith)
used-some n (suc zero) h = absurd (omega arith)
used-some n (suc (suc k)) h = refl

pub used-none : (n k : ℕ) → k < 2 → 0 ≡ used_by n k
used-none n zero h = refl
used-none n (suc zero) h = refl
used-none n (suc (suc k)) h = absurd (omega arith)

-- ---- the entry at a place
pub entries_at : (r : Run) (n i : ℕ) → i < n → get_or (entries_to r n) i no_entry ≡ entry_at r i
unfolding entries_to
entries_at r zero i h = absurd (omega arith)
entries_at r (suc n) i h = go (below_or i n) (entries_at r n i)
  where
    go : (i < n) ⊎ (n ≤ i) → (i < n → get_or (entries_to r n) i no_entry ≡ entry_at r i) → get_or (entries_to r n ++ (entry_at r n ∷ [])) i no_entry ≡ entry_at r i
    go (inl l) ih = get_or-append (entries_to r n) (entry_at r n ∷ []) no_entry i (omega (arith, entries-length r n)) ∙ ih l
    go (inr l) ih =
        let e : i ≡ n = omega arith in
        rw e (get_or_at (entries_to r n) (entry_at r n) [] no_entry n (entries-length r n))

-- ---- a planned outcome, place by place
one-most : (b : Bool) → leb (guard b 1) 1 ≡ true
one-most true = refl
one-most false = refl

module _ (m : RunRange) (r : Run) where
  lines-kept : (n : ℕ) → m.loads ≡ n → ((i : ℕ) → i < n → figures_in m (entry_at r i) ≡ true) → outcome_in m (planned (entries_to r n)) ≡ true
  unfolding outcome_in entry_in
  lines-kept n e f =
      rw (eq-eqb (length (entries_to r n)) m.loads (omega (arith, entries-length r n)))
      (from_each no_entry (entry_in m) 1 (entries_to r n) (λ i b k q.
      let j : i < n = omega (arith, entries-length r n) in
      let s : k ≡ suc i = omega arith in
      rw (s, entries_at r n i j, eq-eqb (suc i) (suc i) refl, one-most (has_load r.set (suc i))) (f i j)))

  in_lines : (n : ℕ) → outcome_in m (planned (entries_to r n)) ≡ true → (i : ℕ) → i < n → figures_in m (entry_at r i) ≡ true
  unfolding outcome_in entry_in
  in_lines n h i j =
      let each = and_right (eqb (length (entries_to r n)) m.loads) (every_from (entry_in m) 1 (entries_to r n)) h in
      let at = from_at no_entry (entry_in m) 1 (entries_to r n) each i (omega (arith, entries-length r n)) (suc i) (omega arith) in
      and_right (eqb (suc i) (suc i) && leb (entry_at r i).mark 1) (figures_in m (entry_at r i)) (rw (entries_at r n i j) at at)

  -- past the array a state is 0, which is none of a book: no run gives figures in range for more loads than it has places
  pub past-places : (n : ℕ) → length r.states ≡ max_loads → max_loads < n → figures_keep m r n ≡ false
  unfolding figures_keep figures_in
  past-places n e l = go (figures_keep m r n) refl
    where
      go : (b : Bool) → figures_keep m r n ≡ b → b ≡ false
      go false h = refl
      go true h =
          let kept = below_at _ n max_loads h l in
          let state = and_left (leb 1 (get_or r.states max_loads 0)) (leb (get_or r.states max_loads 0) m.states) (and_left _ _ (and_left _ _ kept)) in
          absurd (omega (arith, leb-true 1 (get_or r.states max_loads 0) state, get_or-eq_default r.states 0 {n = max_loads} (omega (arith, e))))

  -- by the status of the outcome: where it is a plan all loads are in use, else none
  pub placed : (k : ℕ) → figures_keep m r (used_by m.loads k) ≡ outcome_in m (of_status k (entries_to r m.loads))
  unfolding outcome_in figures_keep
  placed zero = below-zero _
  placed (suc zero) = below-zero _
  placed (suc (suc k)) = same_test _ _ (λ f. lines-kept m.loads refl (λ i l. below_at _ m.loads i f l)) (λ h. below_all _ m.loads (λ i l. in_lines m.loads h i l))
