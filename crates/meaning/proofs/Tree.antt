-- The forest of the loads: where a row goes on, and that each load is in it once.
-- Assumes nothing.
use Prim.Native.Nat.{ℕ, zero, suc, ◌+◌, ◌≤◌, ◌<◌}
use mathlib.Core.Path.{◌≡◌, refl, sym, ap}
use mathlib.Core.Bool.{Bool, true, false, cond}
use mathlib.Core.List.{List, [], ◌∷◌}
use mathlib.Core.Logic.{◌⊎◌, inl, inr}
use native.Mathlib.Nat.{eq-or-lt_of_le, zero-add}
use native.Mathlib.Omega.{arith}
use native.Mathlib.Decide.{dec_lt}
use borrow.Author.Tests.{eqb-true, eq-eqb, ne_eqb}
use lib.Dec.{eqb}
use lib.ListN.{length, get_or, drop_of_length-le}
use lib.Seq.{drop-cons}
use Rattle.lists.specs.Argmax.{guard}
use Rattle.tables.specs.declared.load.Load.{Load}
use Rattle.tables.specs.Tables.{no_load}
use Rattle.meaning.specs.Forest.{Item, Forest, nil, node, row, tree, Ordered, IsTree, total, sum, first, after, row_after, row_at}

-- a tree: at most one root
abbrev pub Rooted : Forest → Type 0
Rooted nil = Unit {0}
Rooted (node k i below nil) = Unit {0}
Rooted (node k i below (node k' i' below' later')) = ⊥

pub tree-rooted : (item : ℕ → Load → Item) (ls : List Load) → Rooted (tree item ls)
unfolding tree
tree-rooted item [] = tt
tree-rooted item (l ∷ ls) = tt

-- sums over the numbers 1 to n
unfoldable pub sum_to : (ℕ → ℕ) → ℕ → ℕ
sum_to f zero = 0
sum_to f (suc n) = sum_to f n + f (suc n)

sum_to-zero : (f : ℕ → ℕ) (n : ℕ) → ((p : ℕ) → f p ≡ 0) → sum_to f n ≡ 0
unfolding sum_to
sum_to-zero f zero h = refl
sum_to-zero f (suc n) h = omega (arith, sum_to-zero f n h, h (suc n))

sum_to-add : (f g h : ℕ → ℕ) (n : ℕ) → ((p : ℕ) → f p ≡ g p + h p) → sum_to f n ≡ sum_to g n + sum_to h n
unfolding sum_to
sum_to-add f g h zero e = refl
sum_to-add f g h (suc n) e = omega (arith, sum_to-add f g h n e, e (suc n))

-- only the number q counts
sum_to-past : (q x n : ℕ) → n < q → sum_to (λ p. guard (eqb q p) x) n ≡ 0
unfolding sum_to
sum_to-past q x zero h = refl
sum_to-past q x (suc n) h =
    omega (arith, sum_to-past q x n (omega arith), ap (λ t. guard t x) (ne_eqb q (suc n) (λ e. absurd (omega arith))))

sum_to-pick : (q x n : ℕ) → 0 < q → q ≤ n → sum_to (λ p. guard (eqb q p) x) n ≡ x
unfolding sum_to
sum_to-pick q x zero h k = absurd (omega arith)
sum_to-pick q x (suc n) h k = go (sum_to-pick q x n h) (eq-or-lt_of_le k)
  where
    go : (q ≤ n → sum_to (λ p. guard (eqb q p) x) n ≡ x) → (q ≡ suc n) ⊎ (q < suc n)
        → sum_to (λ p. guard (eqb q p) x) n + guard (eqb q (suc n)) x ≡ x
    go ih (inl e) = omega (arith, sum_to-past q x n (omega arith), ap (λ t. guard t x) (eq-eqb q (suc n) e))
    go ih (inr l) = omega (arith, ih (omega arith), ap (λ t. guard t x) (ne_eqb q (suc n) (λ e. absurd (omega arith))))

module _ (item : ℕ → Load → Item) (w : ℕ → Item → ℕ) where
  row-total : (l : Load) (ls : List Load) (k p : ℕ) → total w (row item (l ∷ ls) k p)
      ≡ guard (eqb l.parent p) (w k (item k l) + total w (row item ls (suc k) k)) + total w (row item ls (suc k) p)
  unfolding row total
  row-total l ls k p = go (eqb l.parent p)
    where
      go : (t : Bool) → total w (cond t (node k (item k l) (row item ls (suc k) k) (row item ls (suc k) p)) (row item ls (suc k) p))
          ≡ guard t (w k (item k l) + total w (row item ls (suc k) k)) + total w (row item ls (suc k) p)
      go true = refl
      go false = sym (zero-add _)

  pub rows-total : (ls : List Load) (k : ℕ) → Ordered ls (suc k)
      → sum_to (λ p. total w (row item ls (suc k) p)) k ≡ sum (λ k l. w k (item k l)) ls (suc k)
  unfolding row total sum sum_to
  rows-total [] k o = sum_to-zero _ k (λ p. refl)
  rows-total (l ∷ ls) k o =
      omega (
        arith,
        sum_to-add (λ p. total w (row item (l ∷ ls) (suc k) p))
            (λ p. guard (eqb l.parent p) (w (suc k) (item (suc k) l) + total w (row item ls (suc (suc k)) (suc k))))
            (λ p. total w (row item ls (suc (suc k)) p)) k (row-total l ls (suc k)),
        sum_to-pick l.parent (w (suc k) (item (suc k) l) + total w (row item ls (suc (suc k)) (suc k))) k o.0 (omega arith),
        rows-total ls (suc k) o.2,
      )

  -- a sum over the tree is the sum over the loads
  pub tree-total : (ls : List Load) → IsTree ls → total w (tree item ls) ≡ sum (λ k l. w k (item k l)) ls 1
  unfolding tree total sum sum_to
  tree-total [] o = refl
  tree-total (l ∷ ls) o = omega (arith, rows-total ls 1 o)

-- where the loads from a number on have the next child of p
module _ (ls : List Load) (j p : ℕ) where
  pub after-end : length ls ≤ j → after ls j p ≡ 0
  unfolding first after
  after-end h = rw (drop_of_length-le ls h)

  pub after-here : j < length ls → (get_or ls j no_load).parent ≡ p → after ls j p ≡ suc j
  unfolding first after
  after-here h e = rw (drop-cons ls j no_load h, eq-eqb _ _ e)

  pub after-skip : j < length ls → ((get_or ls j no_load).parent ≡ p → ⊥) → after ls j p ≡ after ls (suc j) p
  unfolding first after
  after-skip h e = rw (drop-cons ls j no_load h, ne_eqb _ _ e)

module _ (item : ℕ → Load → Item) (ls : List Load) (p : ℕ) where
  row_from : (n j : ℕ) → length ls ≤ j + n → row_after item ls j p ≡ row_at item ls (after ls j p)
  unfolding row first after
  row_from zero j h = rw (after-end ls j p (omega arith), drop_of_length-le ls {i = j} (omega arith))
  row_from (suc n) j h = go (row_from n (suc j) (omega arith)) (dec_lt j (length ls))
    where
      here : row_after item ls (suc j) p ≡ row_at item ls (after ls (suc j) p) → (t : Bool) → eqb (get_or ls j no_load).parent p ≡ t
          → cond t (node (suc j) (item (suc j) (get_or ls j no_load)) (row_after item ls (suc j) (suc j)) (row_after item ls (suc j) p)) (row_after item ls (suc j) p)
          ≡ row_at item ls (cond t (suc j) (after ls (suc j) p))
      here ih true e =
          ap (λ (q : ℕ). node (suc j) (item (suc j) (get_or ls j no_load)) (row_after item ls (suc j) (suc j)) (row_after item ls (suc j) q)) (sym (eqb-true _ _ e))
      here ih false e = ih

      go : row_after item ls (suc j) p ≡ row_at item ls (after ls (suc j) p) → Dec (j < length ls)
          → row_after item ls j p ≡ row_at item ls (after ls j p)
      go ih (yes l) = rw (after, drop-cons ls j no_load l) (here ih _ refl)
      go ih (no l) = rw (after-end ls j p (omega arith), drop_of_length-le ls {i = j} (omega arith))

  -- a row of children is the row from the first of them onward
  pub row-after : (j : ℕ) → row_after item ls j p ≡ row_at item ls (after ls j p)
  row-after j = row_from (length ls) j (omega arith)
