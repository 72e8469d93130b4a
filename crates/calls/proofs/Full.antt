-- With n places for loads, load lines in range meet refusal 6 at line n + 1, and not before. Assumes nothing.
use Prim.Native.Nat.{ℕ, zero, suc, ◌+◌, ◌≤◌, ◌<◌}
use mathlib.Core.Path.{◌≡◌, refl, ap, ◌∙◌}
use mathlib.Core.Bool.{Bool, true, false}
use mathlib.Core.List.{List, [], ◌∷◌}
use native.Mathlib.Omega.{arith}
use borrow.Author.Tests.{le-leb, lt-leb}
use lib.Dec.{leb}
use lib.ListN.{length}
use Rattle.lists.specs.Tests.{pick}
use Rattle.lists.proofs.Arrays.{length-snoc}
use Rattle.lines.specs.declared.Command.TheVariants as line
use Rattle.lines.specs.declared.Change.TheVariants as to
use Rattle.lines.proofs.Sizes.{numbers-short}
use Rattle.tables.specs.Refusals as no
use Rattle.tables.specs.Tables as on-paper
use Rattle.tables.specs.Tables.{Tables}
use Rattle.tables.specs.Limits.{most_places}
use Rattle.tables.specs.Changes.{add_load}
use Rattle.calls.specs.State.{State, fresh, stored_state}
use Rattle.calls.specs.Rows.{◌if◌, Row, load, changing, row}
use Rattle.calls.specs.Causes.{lowest, refusal}
use Rattle.calls.specs.Calls.{Call, Reply, row_for, after, number_for, answer}
use Rattle.calls.specs.Demand3.{Exchange, History, on_lines, Right}
use Rattle.calls.specs.Full.{LoadCall, LoadCalls, number_at, FullAfter}
use Rattle.calls.proofs.Refusals.{after-number}
use Rattle.calls.proofs.Answers.{roomy, row_is}
use Rattle.calls.proofs.Demand3.{demand3}

-- the number of such a line on tables with k loads, and the tables after one that is accepted
module _ (n k : ℕ) (s : State) (places : s.tables.places ≡ n) (loads : length s.tables.loads ≡ k) (c : Call) (l : LoadCall (suc k) c) where
  abbrev r : Row
  r = row s (line.Change (to.Load l.parent l.power l.worth l.kind))

  load_row : row_for s c ≡ r
  load_row = row_is s c (line.Change (to.Load l.parent l.power l.worth l.kind)) l.line (numbers-short c.line (line.Change (to.Load l.parent l.power l.worth l.kind)) l.line refl)

  load-number : number_for s c ≡ pick (leb n k) no.full 0
  unfolding row changing lowest
  load-number =
      ap (refusal (length c.work) (length c.output) c.place) load_row ∙ roomy (length c.work) (length c.output) c.place r l.free
      ∙ rw (loads, places, l.fits) (go (leb n k))
    where
      go : (b : Bool) → lowest ((no.full if b) ∷ []) ≡ pick b no.full 0
      go true = refl
      go false = refl

  load_after : k < n → (after s c).tables ≡ add_load s.tables (load l.parent l.power l.worth l.kind)
  unfolding row changing
  load_after h = ap (λ (x : State). x.tables) (after-number s c) ∙ rw (load-number, lt-leb n k h, load_row)

numbers : (n k : ℕ) (s : State) → s.tables.places ≡ n → length s.tables.loads ≡ k → (xs : List Exchange) → Right s (on_lines xs) → LoadCalls (suc k) xs
    → (j : ℕ) → k + j ≤ n → j < length xs → number_at xs j ≡ pick (leb n (k + j)) no.full 0
unfolding answer
numbers n k s p q [] r ls j most h = absurd (omega (arith, h))
numbers n k s p q (x ∷ xs) r ls zero most h =
    let e : k + 0 ≡ k = omega arith in
    ap (λ (r : Reply). r.number) r.0 ∙ load-number n k s p q x.call ls.0 ∙ rw e
numbers n k s p q (x ∷ xs) r ls (suc j) most h =
    let e : k + suc j ≡ suc k + j = omega arith in
    let a = load_after n k s p q x.call ls.0 (omega arith) in
    let more : length (after s x.call).tables.loads ≡ suc k = ap (λ (u : Tables). length u.loads) a ∙ omega (arith, length-snoc s.tables.loads (load ls.0.parent ls.0.power ls.0.worth ls.0.kind)) in
    numbers n (suc k) (after s x.call) (ap (λ (u : Tables). u.places) a ∙ p) more xs r.2 ls.1 j (omega arith) (omega (arith, h))
    ∙ rw e

-- for every limit n up to `most_places`
pub full-after : (n : ℕ) → n ≤ most_places → (xs : List Exchange) → History (stored_state (fresh n)) (on_lines xs) → LoadCalls 1 xs → FullAfter n xs
unfolding on-paper.fresh
full-after n few xs y ls =
    let at = numbers n 0 (fresh n) refl refl xs (demand3 n few (on_lines xs) y).plans ls in
    record {
      accepted = λ j b h. at j (omega arith) h ∙ rw (lt-leb n (0 + j) (omega arith));
      full = λ h. at n (omega arith) h ∙ rw (le-leb n (0 + n) (omega arith));
    }
