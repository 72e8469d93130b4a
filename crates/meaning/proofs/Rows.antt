-- Rows of the loads: a row's sum is at most that of the loads after its start, and a next child comes after, if there is one.
-- Assumes nothing.
use Prim.Native.Nat.{ℕ, zero, suc, ◌+◌, ◌≤◌, ◌<◌}
use mathlib.Core.Path.{◌≡◌, refl, ap}
use mathlib.Core.Bool.{Bool, true, false, cond}
use mathlib.Core.List.{List, [], ◌∷◌}
use mathlib.Core.Logic.{◌⊎◌, inl, inr}
use native.Mathlib.Nat.{eq-or-lt_of_le}
use native.Mathlib.Omega.{arith}
use borrow.Author.Tests.{ne_eqb}
use lib.Dec.{eqb}
use lib.ListN.{length, drop, length-drop}
use Rattle.tables.specs.declared.load.Load.{Load}
use Rattle.meaning.specs.Forest.{Item, nil, row, Ordered, total, sum, first, after}
use Rattle.meaning.proofs.Tree.{sum_to, rows-total}

sum_to-term : (f : ℕ → ℕ) (n p : ℕ) → 0 < p → p ≤ n → f p ≤ sum_to f n
unfolding sum_to
sum_to-term f zero p h l = absurd (omega arith)
sum_to-term f (suc n) p h l = go (sum_to-term f n p h) (eq-or-lt_of_le l)
  where
    go : (p ≤ n → f p ≤ sum_to f n) → (p ≡ suc n) ⊎ (p < suc n) → f p ≤ sum_to f n + f (suc n)
    go ih (inl e) = rw e (omega arith)
    go ih (inr m) = omega (arith, ih (omega arith))

-- no load but the root is a child of load 0
pub row-none : (item : ℕ → Load → Item) (ls : List Load) (k : ℕ) → Ordered ls k → row item ls k 0 ≡ nil
unfolding row
row-none item [] k o = refl
row-none item (l ∷ ls) k o = rw (ne_eqb l.parent 0 (omega arith)) (row-none item ls (suc k) o.2)

module _ (item : ℕ → Load → Item) (w : ℕ → Item → ℕ) where
  row-root : (ls : List Load) (k : ℕ) → Ordered ls k → total w (row item ls k 0) ≡ 0
  unfolding total
  row-root ls k o = ap (total w) (row-none item ls k o)

  -- a row is at most all the loads after its start
  pub row-le : (ls : List Load) (k p : ℕ) → Ordered ls (suc k) → p ≤ k → total w (row item ls (suc k) p) ≤ sum (λ k l. w k (item k l)) ls (suc k)
  row-le ls k zero o l = omega (arith, row-root ls (suc k) o)
  row-le ls k (suc p) o l = omega (arith, sum_to-term (λ p. total w (row item ls (suc k) p)) k (suc p) (omega arith) l, rows-total item w ls k o)

  -- the rows of load j and of one before it are together at most all the loads after j
  pub rows-le : (ls : List Load) (j p : ℕ) → Ordered ls (suc (suc j)) → p ≤ j
      → total w (row item ls (suc (suc j)) (suc j)) + total w (row item ls (suc (suc j)) p) ≤ sum (λ k l. w k (item k l)) ls (suc (suc j))
  unfolding sum_to
  rows-le ls j zero o l = omega (arith, row-root ls (suc (suc j)) o, row-le ls (suc j) (suc j) o (omega arith))
  rows-le ls j (suc p) o l =
      omega (arith, sum_to-term (λ p. total w (row item ls (suc (suc j)) p)) j (suc p) (omega arith) l, rows-total item w ls (suc j) o)

-- f is no number, or one of the n numbers from k on
abbrev pub NoneOrFrom : (k n f : ℕ) → Type 0
NoneOrFrom k n f = (f ≡ 0) ⊎ ((k ≤ f) × (f < k + n))

first-from : (ls : List Load) (k p : ℕ) → NoneOrFrom k (length ls) (first ls k p)
unfolding first
first-from [] k p = inl refl
first-from (l ∷ ls) k p = go (eqb l.parent p) (first ls (suc k) p) (first-from ls (suc k) p)
  where
    go : (t : Bool) (f : ℕ) → NoneOrFrom (suc k) (length ls) f → NoneOrFrom k (suc (length ls)) (cond t k f)
    go true f h = inr (omega arith, omega arith)
    go false f (inl e) = inl e
    go false f (inr h) = inr (omega (arith, h.0), omega (arith, h.1))

-- a next child comes after, if there is one
pub after-above : (ls : List Load) (p j : ℕ) → (after ls j p ≡ 0) ⊎ ((j < after ls j p) × (after ls j p ≤ length ls))
unfolding after
after-above ls p j = go (first (drop j ls) (suc j) p) (first-from (drop j ls) (suc j) p)
  where
    go : (f : ℕ) → NoneOrFrom (suc j) (length (drop j ls)) f → (f ≡ 0) ⊎ ((j < f) × (f ≤ length ls))
    go f (inl e) = inl e
    go f (inr h) = inr (omega (arith, h.0), omega (arith, h.0, h.1, length-drop j ls))
