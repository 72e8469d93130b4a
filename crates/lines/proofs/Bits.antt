-- The bits of a check: one turn of the loop that reads them, and which loads the set holds. Assumes nothing.
use Prim.Native.Nat.{ℕ, zero, suc, ◌+◌, ◌-◌, ◌≤◌, ◌<◌, min}
use mathlib.Core.Path.{◌≡◌, refl, sym, ◌∙◌}
use mathlib.Core.Bool.{Bool, true, false, ◌&&◌}
use mathlib.Core.List.{List, [], ◌∷◌}
use mathlib.Core.Logic.{◌⊎◌, inl, inr, ⊎_elim}
use native.Mathlib.Numerals.{add-one}
use native.Mathlib.Omega.{arith}
use borrow.Author.Tests.{le-leb, lt-leb, eq-eqb, ne_eqb}
use lib.Dec.{leb, eqb}
use lib.ListN.{length, get_or, take, drop, drop_of_length-le}
use lib.Seq.{drop-cons}
use Rattle.std.proofs.lemmas.List.{take_rest}
use Rattle.lists.specs.Tests.{pick, every}
use Rattle.lists.proofs.Bools.{and-false, below_or}
use Rattle.marks.specs.declared.LoadSet.{LoadSet}
use Rattle.marks.specs.Sets.{set_width, no_loads, joined, has_load}
use Rattle.marks.proofs.Sets.{has-no-loads, has-joined-same, has-joined-other}
use Rattle.lines.specs.declared.Command.{Command}
use Rattle.lines.specs.declared.Command.TheVariants.{Check, Broken}
use Rattle.lines.specs.Text.{nought}
use Rattle.lines.specs.Grammar.{is_bit, is_bits, joined_from, loads_of}
use Rattle.lines.specs.Reading.{bits_of}

-- ---- what the rest of the bits gives, n bits being read, and their loads in the set s
pub bits_from : ℕ → LoadSet → List ℕ → Command
bits_from n s f = pick (leb 1 (n + length f) && every is_bit f) (Check (joined_from (n + 1) s f) (n + length f)) Broken

pub bits-begin : (f : List ℕ) → bits_of f ≡ bits_from 0 no_loads f
unfolding bits_of bits_from is_bits
bits-begin f = let e : 0 + length f ≡ length f = omega arith in rw e

no_bit : (b : ℕ) → (b ≡ nought → ⊥) → (b ≡ nought + 1 → ⊥) → is_bit b ≡ false
no_bit b p q = go (below_or b nought)
  where
    go : (b < nought) ⊎ (nought ≤ b) → is_bit b ≡ false
    go (inl l) = rw (lt-leb nought b l)
    go (inr l) = rw (le-leb nought b l, lt-leb b (nought + 1) (omega arith))

module _ (l : List ℕ) (i n : ℕ) (s : LoadSet) where
  pub bits_none : length l ≤ i → n ≡ 0 → bits_from n s (drop i l) ≡ Broken
  unfolding bits_from
  bits_none h e = rw (drop_of_length-le l h, e)

  pub bits-all : length l ≤ i → (n ≡ 0 → ⊥) → bits_from n s (drop i l) ≡ Check s n
  unfolding bits_from every joined_from
  bits-all h p = let e : n + 0 ≡ n = omega arith in rw (drop_of_length-le l h, e, le-leb 1 n (omega arith))

  -- a bit: the set grows by its load, or stays
  module _ (h : i < length l) (low : nought ≤ get_or l i 0) (high : get_or l i 0 ≤ nought + 1) where
    turn : {r : LoadSet} → pick (eqb (get_or l i 0) (nought + 1)) (joined s (n + 1)) s ≡ r → bits_from n s (drop i l) ≡ bits_from (n + 1) r (drop (i + 1) l)
    unfolding bits_from every joined_from
    turn {r} e =
        let k : n + suc (length (drop (suc i) l)) ≡ n + 1 + length (drop (suc i) l) = omega arith in
        rw (← e, drop-cons l i 0, le-leb nought _ low, le-leb _ (nought + 1) high, k, add-one i, add-one (n + 1))

    pub bits-on : {r : LoadSet} → get_or l i 0 ≡ nought + 1 → r ≡ joined s (n + 1) → bits_from n s (drop i l) ≡ bits_from (n + 1) r (drop (i + 1) l)
    bits-on e q = turn (rw (eq-eqb _ (nought + 1) e) (sym q))

    pub bits-off : {r : LoadSet} → (get_or l i 0 ≡ nought + 1 → ⊥) → r ≡ s → bits_from n s (drop i l) ≡ bits_from (n + 1) r (drop (i + 1) l)
    bits-off e q = turn (rw (ne_eqb _ (nought + 1) e) (sym q))

  pub bits-bad : i < length l → (get_or l i 0 ≡ nought → ⊥) → (get_or l i 0 ≡ nought + 1 → ⊥) → bits_from n s (drop i l) ≡ Broken
  unfolding bits_from every
  bits-bad h p q = rw (drop-cons l i 0, no_bit (get_or l i 0) p q, and-false (leb 1 (n + suc (length (drop (suc i) l)))))

-- the bits from a place on, none where it lies past the end
pub bits-after : (s : List ℕ) (start n : ℕ) → n ≡ min start (length s) → take (length s - n) (drop n s) ≡ drop start s
bits-after s start n e = take_rest s n ∙ go (below_or (length s) start)
  where
    go : (length s < start) ⊎ (start ≤ length s) → drop n s ≡ drop start s
    go (inl l) = let k : length s ≤ n = omega arith in rw (drop_of_length-le s k, drop_of_length-le s {i = start} (omega arith))
    go (inr l) = let k : n ≡ start = omega arith in rw k

-- ---- which loads the set holds
step : ℕ → LoadSet → ℕ → LoadSet
step k s b = pick (eqb b (nought + 1)) (joined s k) s

step_other : (k : ℕ) (s : LoadSet) (b j : ℕ) → (j ≡ k → ⊥) → has_load (step k s b) j ≡ has_load s j
unfolding step
step_other k s b j h = go (eqb b (nought + 1))
  where
    go : (t : Bool) → has_load (pick t (joined s k) s) j ≡ has_load s j
    go true = has-joined-other s k j h
    go false = refl

step_same : (k : ℕ) (s : LoadSet) (b : ℕ) → 0 < k → k ≤ set_width → has_load s k ≡ false → has_load (step k s b) k ≡ eqb b (nought + 1)
unfolding step
step_same k s b p l h = go (eqb b (nought + 1))
  where
    go : (t : Bool) → has_load (pick t (joined s k) s) k ≡ t
    go true = has-joined-same s k p l
    go false = h

-- bits from load k on say nothing of other loads
from-other : (k : ℕ) (s : LoadSet) (f : List ℕ) (j : ℕ) → (j < k) ⊎ (k + length f ≤ j) → has_load (joined_from k s f) j ≡ has_load s j
unfolding joined_from step
from-other k s [] j h = refl
from-other k s (b ∷ bs) j h =
    from-other (suc k) (step k s b) bs j (⊎_elim (λ (l : j < k). inl (omega arith)) (λ (l : k + suc (length bs) ≤ j). inr (omega arith)) h)
    ∙ step_other k s b j (⊎_elim (λ (l : j < k) (e : j ≡ k). absurd (omega arith)) (λ (l : k + suc (length bs) ≤ j) (e : j ≡ k). absurd (omega arith)) h)

-- and of load k + i that it is on exactly if bit i is 1
from-bit : (k : ℕ) (s : LoadSet) (f : List ℕ) (i : ℕ) → 0 < k → k + i ≤ set_width → i < length f → ((j : ℕ) → k ≤ j → has_load s j ≡ false)
    → has_load (joined_from k s f) (k + i) ≡ eqb (get_or f i 0) (nought + 1)
unfolding joined_from step
from-bit k s [] i p l h none = absurd (omega arith)
from-bit k s (b ∷ bs) zero p l h none =
    let e : k + 0 ≡ k = omega arith in
    rw e (from-other (suc k) (step k s b) bs k (inl (omega arith)) ∙ step_same k s b p (omega arith) (none k (omega arith)))
from-bit k s (b ∷ bs) (suc i) p l h none =
    let e : k + suc i ≡ suc k + i = omega arith in
    rw e (from-bit (suc k) (step k s b) bs i (omega arith) (omega arith) (omega arith)
    (λ j g. step_other k s b j (λ q. absurd (omega arith)) ∙ none j (omega arith)))

-- load k, of those that a set can hold, is in it exactly if byte k of the field is `1`
pub loads-bit : (f : List ℕ) (k : ℕ) → 1 ≤ k → k ≤ set_width → k ≤ length f → has_load (loads_of f) k ≡ eqb (get_or f (k - 1) 0) (nought + 1)
loads-bit f k p l h =
    let e : 1 + (k - 1) ≡ k = omega arith in
    rw e at (from-bit 1 no_loads f (k - 1) (omega arith) (omega arith) (omega arith) (λ j g. has-no-loads j))

-- no load past the count is in it
pub loads-past : (f : List ℕ) (k : ℕ) → length f < k → has_load (loads_of f) k ≡ false
loads-past f k h = from-other 1 no_loads f k (inr (omega arith)) ∙ has-no-loads k
