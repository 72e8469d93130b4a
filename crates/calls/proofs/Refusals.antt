-- The number of a row, and that it acts exactly if its number is 0. Assumes nothing.
use Prim.Native.Nat.{ℕ, zero, suc, ◌≤◌, ◌<◌}
use mathlib.Core.Path.{◌≡◌, refl, sym, ap, ap₂, ◌∙◌}
use mathlib.Core.Bool.{Bool, true, false}
use mathlib.Core.List.{◌∷◌}
use mathlib.Core.Logic.{◌⊎◌, inl, inr}
use native.Mathlib.Nat.{eq-zero-or-pos}
use native.Mathlib.Omega.{arith}
use lib.Dec.{lit≤, eqb}
use lib.ListN.{length}
use Rattle.lists.proofs.Bools.{or_right}
use Rattle.lines.specs.declared.Change.{Change}
use Rattle.lines.specs.declared.Command.{Command}
use Rattle.lines.specs.declared.Command.TheVariants as line
use Rattle.lines.specs.Grammar.{line_command}
use Rattle.tables.specs.Refusals as no
use Rattle.tables.specs.Tables.{Tables}
use Rattle.calls.specs.State.{State, plain}
use Rattle.calls.specs.Rows.{◌if◌, Row, changes, shows, works, changing, row, line_row, causes_of, effect_of, is_change, is_show}
use Rattle.calls.specs.Causes.{lowest, all_causes, refusal, Lowest}
use Rattle.calls.specs.Effects.{acted, changed, outcome_by, filled_by, state_by}
use Rattle.calls.specs.Printing.{has_outcome}
use Rattle.calls.specs.Calls.{Call, row_for, after, number_for}
use Rattle.calls.proofs.Numbers.{rising, ascending-from, lowest-given, lowest-least, lowest-range}
use Rattle.calls.proofs.Work.{clash}
use Rattle.calls.proofs.Rows.{Right}

module _ {s : State} {n : ℕ} {r : Row} (x : Right s n r) where
  -- the lowest number that applies is given, each exactly in its case
  pub causes-lowest : (b : Bool) (room place : ℕ) → let cs = (no.unusable if b) ∷ all_causes n room place r in Lowest cs (lowest cs)
  unfolding all_causes
  causes-lowest b room place = record { given = lowest-given _; least = lowest-least 1 _ (lit≤ tt, (lit≤ tt, rising 1 (causes_of n r) (ascending-from (lit≤ tt) (causes_of n r) x.ordered))) }

  pub refusal-most : (room place : ℕ) → refusal n room place r ≤ no.greatest
  unfolding refusal all_causes
  refusal-most room place = go (eq-zero-or-pos _)
    where
      go : (lowest (all_causes n room place r) ≡ 0) ⊎ (0 < lowest (all_causes n room place r)) → lowest (all_causes n room place r) ≤ no.greatest
      go (inl e) = omega arith
      go (inr l) = (lowest-range 1 (all_causes n room place r) (lit≤ tt, ascending-from (lit≤ tt) (causes_of n r) x.ordered) l).1

  -- the number of a row with enough free bytes: 0, or or a number of the row
  pub past_one : 0 < lowest (causes_of n r) → (no.unusable < lowest (causes_of n r)) × (lowest (causes_of n r) ≤ no.greatest)
  past_one = lowest-range 2 (causes_of n r) x.ordered

-- what leaves the tables where it is accepted leaves them always
idle : (t : Tables) (n : ℕ) (r : Row) → effect_of t r ≡ t → acted t n r ≡ t
idle t zero r e = e
idle t (suc n) r e = refl

-- no change's number depends on the cells, and no other row acts
acts-alike : (t : Tables) (m n room place : ℕ) (r : Row) → acted t (refusal m room place r) r ≡ acted t (refusal n room place r) r
unfolding refusal all_causes
acts-alike t m n room place (changes x) = refl
acts-alike t m n room place (shows b cs x) = refl
acts-alike t m n room place (works k b cells before after x) =
    let r = works k b cells before after x in
    idle t (refusal m room place r) r refl ∙ sym (idle t (refusal n room place r) r refl)

-- no row that acts looks beside the tables
acts-plain : (s : State) (room place : ℕ) (c : Command) → let t = s.tables in
    acted t (refusal 0 room place (row (plain t) c)) (row (plain t) c) ≡ acted t (refusal 0 room place (row s c)) (row s c)
unfolding row
acts-plain s room place (line.Change c) = refl
acts-plain s room place line.Plan = refl
acts-plain s room place (line.Check σ n) = refl
acts-plain s room place (line.Save f) = refl
acts-plain s room place line.Last =
    let t = s.tables in
    let p = row (plain t) line.Last in
    let r = row s line.Last in
    idle t (refusal 0 room place p) p refl ∙ sym (idle t (refusal 0 room place r) r refl)
acts-plain s room place (line.Need v) = refl
acts-plain s room place line.Broken = refl
acts-plain s room place line.TooLong = refl

-- a call acts exactly if its number is 0
pub after-number : (s : State) (c : Call) → after s c ≡ state_by s (number_for s c) (row_for s c)
unfolding changed line_row
after-number s c =
    let acts = acts-plain s (length c.output) c.place (line_command c.line)
    ∙ acts-alike s.tables 0 (length c.work) (length c.output) c.place (row_for s c) in
    λ i. record { tables = acts i; outcome = outcome_by (number_for s c) (row_for s c) s.outcome; filled = filled_by (number_for s c) (row_for s c) s.filled }

-- the line of a change: its row, and the tables that it leaves where it is accepted
module _ (s : State) (x : Call) (c : Change) (on : line_command x.line ≡ line.Change c) where
  pub change-row : row_for s x ≡ changes (changing s.tables c)
  unfolding line_row row
  change-row = ap (row s) on

  pub change-after : number_for s x ≡ 0 → (after s x).tables ≡ (changing s.tables c).after
  change-after e = ap (λ (y : State). y.tables) (after-number s x ∙ ap₂ (λ (n : ℕ) (r : Row). state_by s n r) e change-row)

-- "a refused one not at all"
pub refused-tables : (s : State) (c : Call) → 0 < number_for s c → (after s c).tables ≡ s.tables
refused-tables s c h = ap (λ (x : State). x.tables) (after-number s c) ∙ go (number_for s c) h
  where
    go : (n : ℕ) → 0 < n → acted s.tables n (row_for s c) ≡ s.tables
    go zero l = absurd (omega arith)
    go (suc n) l = refl

-- a row that is no change leaves the tables, and one that does not store the outcome too
pub still-tables : (s : State) (n : ℕ) (r : Row) → is_change r ≡ false → (state_by s n r).tables ≡ s.tables
still-tables s n (changes x) e = absurd (clash e)
still-tables s n (shows b cs x) e = idle s.tables n (shows b cs x) refl
still-tables s n (works k b m before after x) e = idle s.tables n (works k b m before after x) refl

pub still-state : (s : State) (n : ℕ) (r : Row) → is_show r ≡ true → state_by s n r ≡ s
still-state s n (changes x) e = absurd (clash (sym e))
still-state s zero (shows b cs x) e = refl
still-state s (suc n) (shows b cs x) e = refl
still-state s n (works true b m before after x) e = absurd (clash (sym e))
still-state s zero (works false b m before after x) e = refl
still-state s (suc n) (works false b m before after x) e = refl

pub shown-keeps : (s : State) (c : Call) → is_show (row_for s c) ≡ true → after s c ≡ s
shown-keeps s c e = after-number s c ∙ still-state s (number_for s c) (row_for s c) e

-- and so does a refusal that is no outcome
pub refused-state : (s : State) (n : ℕ) (r : Row) → 0 < n → has_outcome n ≡ false → state_by s n r ≡ s
refused-state s zero r l e = absurd (omega arith)
refused-state s (suc n) (changes x) l e = refl
refused-state s (suc n) (shows b cs x) l e = refl
refused-state s (suc n) (works true b m before after x) l e = rw (or_right (eqb (suc n) 0) (eqb (suc n) no.none_fits) e)
refused-state s (suc n) (works false b m before after x) l e = refl

pub refused-keeps : (s : State) (c : Call) → 0 < number_for s c → has_outcome (number_for s c) ≡ false → after s c ≡ s
refused-keeps s c h e = after-number s c ∙ refused-state s (number_for s c) (row_for s c) h e
