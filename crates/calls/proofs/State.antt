-- A state within the limits, stored and read back. Assumes nothing.
use Prim.Native.Nat.{ℕ, ◌≤◌}
use mathlib.Core.Path.{◌≡◌, refl, sym, ap, ◌∙◌}
use mathlib.Core.Bool.{true, ◌&&◌}
use native.Mathlib.Omega.{arith}
use borrow.Author.Tests.{le-leb, leb-true}
use lib.Dec.{leb}
use lib.ListN.{length}
use Rattle.lists.proofs.Bools.{and_left, and_right}
use Rattle.tables.specs.declared.tables.StoredTables.{StoredTables}
use Rattle.tables.specs.Tables.{Tables}
use Rattle.marks.specs.Sets.{set_width}
use Rattle.tables.specs.Limits.{most_places, Limits}
use Rattle.tables.specs.Stored.{stored_book, stored, tables_of, keeps_limits, Holds}
use Rattle.tables.proofs.Lawful as tables
use Rattle.tables.proofs.Keeps.{fresh-limits}
use Rattle.tables.proofs.Stored.{tables-stored, stored-keeps, keeps-exactly}
use Rattle.meaning.specs.Cells.{cells_of}
use Rattle.runs.specs.declared.outcome.StoredOutcome.{StoredOutcome}
use Rattle.runs.specs.Outcome.{Outcome, stored_outcome, outcome_of, range_of, held_range, outcome_in, keeps_outcome}
use Rattle.runs.proofs.Stored as outcomes
use Rattle.runs.proofs.Stored.{outcome-stored, stored-in, kept_in}
use Rattle.calls.specs.State.{State, StoredState, fresh, stored_state, state_of, keeps, Within, Kept, Sized}

-- ---- tables
module _ {n : ℕ} (u : StoredTables) (h : Holds n u) where
  same_tables : tables_of u ≡ h.0
  same_tables = ap tables_of h.2 ∙ tables-stored h.0 h.1

  pub lawful : Limits (tables_of u)
  lawful = rw same_tables h.1

  pub is-stored : u ≡ stored (tables_of u)
  is-stored = h.2 ∙ ap stored (sym same_tables)

  pub range-held : held_range u ≡ range_of (tables_of u)
  unfolding stored stored_book
  range-held = ap held_range is-stored

  pub places : (tables_of u).places ≡ n
  places = ap (λ (t : Tables). t.places) same_tables ∙ h.3

-- ---- the outcome
-- there is a place for each load
pub few-loads : (t : Tables) → Limits t → length t.loads ≤ t.places
few-loads t h = (tables.lawful t h).loads

-- and a set can hold each
most-places : (t : Tables) → Limits t → t.places ≤ set_width
most-places t h = (tables.lawful t h).places

module _ (t : Tables) (h : Limits t) (x : StoredOutcome) (k : (o : Outcome) × (outcome_in (range_of t) o ≡ true) × (x ≡ stored_outcome t.places o)) where
  same_outcome : outcome_of (length t.loads) x ≡ k.0
  same_outcome = ap (outcome_of (length t.loads)) k.2 ∙ outcome-stored t.places (most-places t h) (range_of t) (few-loads t h) k.0 k.1

  in-range : outcome_in (range_of t) (outcome_of (length t.loads) x) ≡ true
  in-range = rw same_outcome k.1

  pub is-outcome : x ≡ stored_outcome t.places (outcome_of (length t.loads) x)
  is-outcome = k.2 ∙ ap (stored_outcome t.places) (sym same_outcome)

-- ---- the state
pub fresh-within : (n : ℕ) → n ≤ most_places → Within (fresh n)
unfolding outcome_in
fresh-within n h = record { tables = fresh-limits n h; outcome = refl; filled = omega arith }

pub state-stored : (s : State) → Within s → state_of (stored_state s) ≡ s
state-stored s h =
    let e = tables-stored s.tables h.tables in
    let q : outcome_of (length (tables_of (stored s.tables)).loads) (stored_outcome s.tables.places s.outcome) ≡ s.outcome =
    ap (λ (t : Tables). outcome_of (length t.loads) (stored_outcome s.tables.places s.outcome)) e
    ∙ outcome-stored s.tables.places (most-places s.tables h.tables) (range_of s.tables) (few-loads s.tables h.tables) s.outcome h.outcome in
    λ i. record { tables = e i; outcome = q i; filled = s.filled }

pub keeps-stored : (s : State) → Within s → keeps (stored_state s) ≡ true
unfolding stored stored_book
keeps-stored s h =
    rw (
      stored-keeps s.tables h.tables,
      stored-in s.tables.places (most-places s.tables h.tables) (range_of s.tables) (few-loads s.tables h.tables) s.outcome h.outcome,
      tables-stored s.tables h.tables,
    ) (le-leb s.filled (cells_of s.tables) h.filled)

module _ {n : ℕ} (p : StoredState) where
  -- a planner that keeps the limits holds a state within them
  pub kept_by : Holds n p.tables → length p.outcome.run.states ≡ n → length p.outcome.run.load_rules ≡ n
      → length p.outcome.run.row_rules ≡ n → keeps_outcome (held_range p.tables) p.outcome ≡ true
      → p.filled ≤ cells_of (tables_of p.tables) → Kept n p
  kept_by holds a b c test few =
      let t = tables_of p.tables in
      let e = rw (range-held p.tables holds) at test in
      let l = lawful p.tables holds in
      let at = sym (places p.tables holds) in
      record {
        tables = holds;
        outcome = (
          outcome_of (length t.loads) p.outcome,
          kept_in (range_of t) p.outcome e,
          outcomes.kept-stored t.places (most-places t l) (range_of t) (few-loads t l) p.outcome (a ∙ at) (b ∙ at) (c ∙ at) e,
        );
        filled = few;
      }

  pub keeps-kept : Sized n p → keeps p ≡ true → Kept n p
  keeps-kept len e =
      let l = keeps_limits p.tables in
      let o = keeps_outcome (held_range p.tables) p.outcome in
      let f = leb p.filled (cells_of (tables_of p.tables)) in
      let lo = and_left (l && o) f e in
      kept_by ((keeps-exactly p.tables len.tables n len.places).0 (and_left l o lo))
      len.states len.load_rules len.row_rules (and_right l o lo) (leb-true p.filled (cells_of (tables_of p.tables)) (and_right (l && o) f e))

  pub kept-within : Kept n p → Within (state_of p)
  kept-within h = let l = lawful p.tables h.tables in record { tables = l; outcome = in-range (tables_of p.tables) l p.outcome h.outcome; filled = h.filled }

  pub kept-stored : Kept n p → p ≡ stored_state (state_of p)
  kept-stored h =
      let o = is-outcome (tables_of p.tables) (lawful p.tables h.tables) p.outcome h.outcome in
      λ i. record { tables = is-stored p.tables h.tables i; outcome = o i; filled = p.filled }
