-- The entries chosen for a tree list each load once, so the set and the assignment that they list are their own. Assumes nothing.
use Prim.Native.Nat.{ℕ, suc, ◌+◌, ◌≤◌, ◌<◌, zero-le}
use mathlib.Core.Path.{◌≡◌, refl, sym, ap, ◌∙◌}
use mathlib.Core.Bool.{Bool, true, false, cond}
use mathlib.Core.List.{List, [], ◌∷◌, ◌++◌}
use mathlib.Core.Logic.{◌≢◌}
use native.Mathlib.Nat.{zero-add}
use native.Mathlib.Omega.{arith}
use borrow.Author.Tests.{eqb-true, eqb-false, eq-eqb, ne_eqb}
use lib.Dec.{eqb}
use lib.ListN.{length}
use Rattle.lists.specs.Argmax.{guard}
use Rattle.tables.specs.Tables.{Book, Tables}
use Rattle.tables.specs.declared.load.Load.{Load}
use Rattle.meaning.specs.Forest.{Item, Forest, nil, node, planned, checked, tree, IsTree, total, sum}
use Rattle.tables.specs.declared.entry.Entry.{Entry}
use Rattle.meaning.specs.Best.{best}
use Rattle.meaning.specs.Choice.{choose_branch, choose, choose_tree, plan, check, no_entry, find, assigned, marks_of, assigned_by, Follows}
use Rattle.meaning.proofs.Tree.{Rooted, tree-rooted, tree-total}

-- how often a number occurs
abbrev pub once : ℕ → ℕ → ℕ
once n k = guard (eqb k n) 1

pub occurs : ℕ → List Entry → ℕ
occurs n [] = 0
occurs n (e ∷ es) = once n e.number + occurs n es

find-same : (e : Entry) (es : List Entry) (n : ℕ) → e.number ≡ n → find (e ∷ es) n ≡ e
unfolding find
find-same e es n h = rw (eq-eqb _ _ h)

find-other : (e : Entry) (es : List Entry) (n : ℕ) → (e.number ≡ n → ⊥) → find (e ∷ es) n ≡ find es n
unfolding find
find-other e es n h = rw (ne_eqb _ _ h)

follows-agree : (F G : ℕ → Entry) (es : List Entry) → ((n : ℕ) → 0 < occurs n es → F n ≡ G n)
    → Follows (λ n. (F n).mark) (λ n. assigned (F n)) es → Follows (λ n. (G n).mark) (λ n. assigned (G n)) es
unfolding occurs
follows-agree F G [] h f = tt
follows-agree F G (e ∷ es) h f =
    let p = h e.number (omega (arith, ap (λ t. guard t 1) (eq-eqb e.number e.number refl))) in (
      sym (ap (λ (x : Entry). x.mark) p) ∙ f.0,
      sym (ap assigned p) ∙ f.1,
      follows-agree F G es (λ n o. h n (omega arith)) f.2,
    )

-- where no number occurs twice
follows-own : (es : List Entry) → ((n : ℕ) → occurs n es ≤ 1) → Follows (marks_of es) (assigned_by es) es
unfolding occurs
follows-own [] h = tt
follows-own (e ∷ es) h =
    let p = find-same e es e.number refl in (
      ap (λ (x : Entry). x.mark) p,
      ap assigned p,
      follows-agree (find es) (find (e ∷ es)) es
          (λ n o. sym (find-other e es n (λ q. absurd (omega (arith, h n, ap (λ t. guard t 1) (eq-eqb e.number n q))))))
          (follows-own es (λ n. omega (arith, h n))),
    )

occurs-append : (n : ℕ) (xs ys : List Entry) → occurs n (xs ++ ys) ≡ occurs n xs + occurs n ys
unfolding occurs
occurs-append n [] ys = sym (zero-add _)
occurs-append n (x ∷ xs) ys = omega (arith, occurs-append n xs ys)

joined : (n : ℕ) (e : Entry) (xs ys : List Entry) (x y : ℕ) → occurs n xs ≡ x → occurs n ys ≡ y
    → occurs n ((e ∷ xs) ++ ys) ≡ once n e.number + x + y
unfolding occurs
joined n e xs ys x y p q = omega (arith, occurs-append n xs ys)

module _ (b : Book) (n : ℕ) where
  abbrev Lists : Forest → Type 0
  Lists f = (g c : ℕ) → occurs n (choose b f g c) ≡ total (λ k i. once n k) f

  occurs-node : (k : ℕ) (i : Item) (below later : Forest) → Lists below → Lists later → Lists (node k i below later)
  unfolding choose total
  occurs-node k i below later p q g c = joined n _ _ _ _ _ (p _ _) (q _ _)

  occurs-choose : (f : Forest) → Lists f
  unfolding choose total occurs
  occurs-choose nil = λ g c. refl
  occurs-choose (node k i below later) = occurs-node k i below later (occurs-choose below) (occurs-choose later)

  occurs-branch : (k : ℕ) (i : Item) (below : Forest) (r q c : ℕ)
      → occurs n (choose_branch b k i (best b below) (choose b below) r q c) ≡ once n k + total (λ k i. once n k) below
  unfolding occurs
  occurs-branch k i below r q c = ap (λ x. once n k + x) (occurs-choose below _ _)

  occurs-tree : (f : Forest) → Rooted f → (c : ℕ) → occurs n (choose_tree b f c) ≡ total (λ k i. once n k) f
  unfolding choose_tree total occurs
  occurs-tree nil o c = refl
  occurs-tree (node k i below nil) o c = simp (occurs-choose below) (omega arith)
  occurs-tree (node k i below (node k' i' below' later')) o c = absurd o

-- the entries chosen for a row or a branch in which no number is that of two loads
pub row-follows : (b : Book) (f : Forest) → ((n : ℕ) → total (λ k i. once n k) f ≤ 1) → (g c : ℕ)
    → Follows (marks_of (choose b f g c)) (assigned_by (choose b f g c)) (choose b f g c)
row-follows b f h g c = follows-own (choose b f g c) (λ n. omega (arith, h n, occurs-choose b n f g c))

pub branch_follows : (b : Book) (k : ℕ) (i : Item) (below : Forest) → ((n : ℕ) → once n k + total (λ k i. once n k) below ≤ 1) → (r q c : ℕ)
    → (let es = choose_branch b k i (best b below) (choose b below) r q c in Follows (marks_of es) (assigned_by es) es)
branch_follows b k i below h r q c =
    follows-own (choose_branch b k i (best b below) (choose b below) r q c) (λ n. omega (arith, h n, occurs-branch b n k i below r q c))

-- a number is that of at most one load
sum_past : (n : ℕ) (ls : List Load) (k : ℕ) → n < k → sum (λ k l. once n k) ls k ≡ 0
unfolding sum
sum_past n [] k h = refl
sum_past n (l ∷ ls) k h =
    omega (arith, sum_past n ls (suc k) (omega arith), ap (λ t. guard t 1) (ne_eqb k n (λ e. absurd (omega arith))))

pub sum-once : (n : ℕ) (ls : List Load) (k : ℕ) → sum (λ k l. once n k) ls k ≤ 1
unfolding sum
sum-once n [] k = zero-le
sum-once n (l ∷ ls) k = go (eqb k n) refl (sum-once n ls (suc k))
  where
    go : (t : Bool) → eqb k n ≡ t → sum (λ k l. once n k) ls (suc k) ≤ 1 → guard t 1 + sum (λ k l. once n k) ls (suc k) ≤ 1
    go true e ih = omega (arith, sum_past n ls (suc k) (omega (arith, eqb-true k n e)))
    go false e ih = omega arith

sum_one : (n : ℕ) (ls : List Load) (k : ℕ) → k ≤ n → n < k + length ls → sum (λ k l. once n k) ls k ≡ 1
unfolding sum
sum_one n [] k h l = absurd (omega arith)
sum_one n (l ∷ ls) k h m = go (eqb k n) refl (sum_one n ls (suc k))
  where
    go : (t : Bool) → eqb k n ≡ t → (suc k ≤ n → n < suc k + length ls → sum (λ k l. once n k) ls (suc k) ≡ 1)
        → guard t 1 + sum (λ k l. once n k) ls (suc k) ≡ 1
    go true e ih = omega (arith, sum_past n ls (suc k) (omega (arith, eqb-true k n e)))
    go false e ih = let d : k ≢ n = eqb-false k n e in omega (arith, ih (omega arith) (omega arith))

-- no load has a number past the last
sum_over : (n : ℕ) (ls : List Load) (k : ℕ) → k + length ls ≤ n → sum (λ k l. once n k) ls k ≡ 0
unfolding sum
sum_over n [] k h = refl
sum_over n (l ∷ ls) k h =
    omega (arith, sum_over n ls (suc k) (omega arith), ap (λ t. guard t 1) (ne_eqb k n (λ e. absurd (omega arith))))

-- a number that occurs is found, and one that does not is not
find-number : (es : List Entry) (n : ℕ) → 0 < occurs n es → (find es n).number ≡ n
unfolding occurs find
find-number [] n h = absurd (omega arith)
find-number (e ∷ es) n h = go (eqb e.number n) refl (find-number es n)
  where
    go : (t : Bool) → eqb e.number n ≡ t → (0 < occurs n es → (find es n).number ≡ n) → (cond t e (find es n)).number ≡ n
    go true q ih = eqb-true _ _ q
    go false q ih = ih (omega (arith, ap (λ t. guard t 1) q))

find_none : (es : List Entry) (n : ℕ) → occurs n es ≡ 0 → find es n ≡ no_entry
unfolding occurs find
find_none [] n h = refl
find_none (e ∷ es) n h = go (eqb e.number n) refl (find_none es n)
  where
    go : (t : Bool) → eqb e.number n ≡ t → (occurs n es ≡ 0 → find es n ≡ no_entry) → cond t e (find es n) ≡ no_entry
    go true q ih = absurd (omega (arith, ap (λ t. guard t 1) q))
    go false q ih = ih (omega (arith, ap (λ t. guard t 1) q))

-- the entries for a tree of n loads are found by their numbers 1 to n, and no others are
pub record Listed (es : List Entry) (n : ℕ) : Type 0 where
  pub number : (k : ℕ) → 0 < k → k ≤ n → (find es k).number ≡ k
  pub zeroth : find es 0 ≡ no_entry
  pub past : (k : ℕ) → n < k → find es k ≡ no_entry

-- the entries chosen for a tree of the loads list each load once
module _ (b : Book) (item : ℕ → Load → Item) (ls : List Load) (o : IsTree ls) (c : ℕ) where
  occurs-number : (n : ℕ) → occurs n (choose_tree b (tree item ls) c) ≡ sum (λ k l. once n k) ls 1
  occurs-number n = occurs-tree b n (tree item ls) (tree-rooted item ls) c ∙ tree-total item (λ k i. once n k) ls o

  pub tree-follows : Follows (marks_of (choose_tree b (tree item ls) c)) (assigned_by (choose_tree b (tree item ls) c)) (choose_tree b (tree item ls) c)
  tree-follows = follows-own (choose_tree b (tree item ls) c) (λ n. omega (arith, occurs-number n, sum-once n ls 1))

  pub tree_lists : (n : ℕ) → 0 < n → n ≤ length ls → occurs n (choose_tree b (tree item ls) c) ≡ 1
  tree_lists n h l = occurs-number n ∙ sum_one n ls 1 h (omega arith)

  pub tree-listed : Listed (choose_tree b (tree item ls) c) (length ls)
  tree-listed = record {
    number = λ n h l. find-number _ n (omega (arith, tree_lists n h l));
    zeroth = find_none _ 0 (occurs-number 0 ∙ sum_past 0 ls 1 (omega arith));
    past = λ n h. find_none _ n (occurs-number n ∙ sum_over n ls 1 (omega arith));
  }

  -- a load's number occurs in the tree
  pub tree-occurs : (n : ℕ) → 0 < n → n ≤ length ls → total (λ k i. once n k) (tree item ls) ≡ 1
  tree-occurs n h l = tree-total item (λ k i. once n k) ls o ∙ sum_one n ls 1 h (omega arith)

module _ (t : Tables) (o : IsTree t.loads) where
  pub plan-listed : Listed (plan t) (length t.loads)
  unfolding plan
  plan-listed = tree-listed t.book planned t.loads o t.budget

  pub check-listed : (σ : ℕ → ℕ) → Listed (check t σ) (length t.loads)
  unfolding check
  check-listed σ = tree-listed t.book (checked σ) t.loads o 0

  pub plan-follows : Follows (marks_of (plan t)) (assigned_by (plan t)) (plan t)
  unfolding plan
  plan-follows = tree-follows t.book planned t.loads o t.budget

  pub check-follows : (σ : ℕ → ℕ) → Follows (marks_of (check t σ)) (assigned_by (check t σ)) (check t σ)
  unfolding check
  check-follows σ = tree-follows t.book (checked σ) t.loads o 0
