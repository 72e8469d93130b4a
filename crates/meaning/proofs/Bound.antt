-- A cell is at most that of all the worth below it, so that cells fit the numbers that hold them; and laws of cells that this needs.
-- Assumes nothing.
use Prim.Native.Nat.{ℕ, zero, suc, ◌+◌, ◌-◌, ◌*◌, ◌≤◌, zero-le}
use mathlib.Core.Path.{◌≡◌, refl}
use mathlib.Core.Bool.{Bool, true, false, ◌&&◌}
use mathlib.Core.List.{List, [], ◌∷◌}
use native.Mathlib.Nat.{le_refl, le_trans, le_of_eq, mul-le-mul_left, mul-suc}
use native.Mathlib.Omega.{arith}
use lib.Dec.{eqb, leb}
use lib.ListN.{length, get_or, drop, length-drop}
use lib.Seq.{get_or-drop}
use Rattle.lists.specs.Argmax.{guard}
use Rattle.lists.proofs.Argmax.{argmax-least}
use Rattle.tables.specs.declared.load.Load.{Load}
use Rattle.tables.specs.Tables.{Book, no_load}
use Rattle.meaning.specs.Forest.{Item, Forest, nil, node, total, sum, Ordered, IsTree, row_at, row_after}
use Rattle.meaning.specs.Runs.{is_end, rule_at}
use Rattle.meaning.specs.Sets.{counted}
use Rattle.meaning.specs.Cell.{cell, empty, ◌⊕◌, draw, gain, score}
use Rattle.meaning.specs.Best.{best, branch_cell, row_cell}
use Rattle.meaning.specs.Cells.{load_at, first_child, row_cells, branch_cells}
use Rattle.meaning.proofs.Cell.{⊕-mono, cell-add}
use Rattle.meaning.proofs.Rows.{row-le}

pub empty-⊕ : (x : ℕ) → empty ⊕ x ≡ x
unfolding ◌⊕◌ cell
empty-⊕ zero = refl
empty-⊕ (suc x) = omega arith

-- a set that draws nothing and is worth no less has no smaller cell
pub cell-grows : (p v v' : ℕ) → v ≤ v' → cell p v ≤ cell 0 v'
unfolding cell
cell-grows p v v' h = omega arith

guard-le : (t : Bool) (x y : ℕ) → x ≤ y → guard t x ≤ y
guard-le true x y h = h
guard-le false x y h = zero-le

counted-le : (m x : ℕ) → counted m x ≤ x
counted-le zero x = zero-le
counted-le (suc m) x = le_refl x

-- two parts within two bounds are within the bound of both
both-le : (x y u v : ℕ) → x ≤ cell 0 u → y ≤ cell 0 v → x ⊕ y ≤ cell 0 (u + v)
both-le x y u v h k = le_trans (⊕-mono x (cell 0 u) y (cell 0 v) h k) (le_of_eq (cell-add 0 u 0 v (omega arith)))

abbrev worths : Forest → ℕ
worths = total (λ k i. i.worth)

module _ (b : Book) where
  branch-bound : (i : Item) (below : ℕ → ℕ → ℕ) (v : ℕ) → ((g c : ℕ) → below g c ≤ cell 0 v) → (q c : ℕ)
      → branch_cell b i below q c ≤ cell 0 (i.worth + v)
  branch-bound i below v h q c =
      argmax-least _ (length b.load_rules) _ (λ j l.
      let t = rule_at b.load_rules j in
      guard-le (eqb t.from q) _ _ (guard-le (i.serves t && leb (draw i t.label) c) _ _
      (both-le (score i t.label) (below t.to (c - draw i t.label)) i.worth v
      (cell-grows (draw i t.label) (gain i t.label) i.worth (counted-le t.label i.worth))
      (h t.to (c - draw i t.label)))))

  row-bound : (branch later : ℕ → ℕ → ℕ) (u v : ℕ) → ((q c : ℕ) → branch q c ≤ cell 0 u) → ((g c : ℕ) → later g c ≤ cell 0 v) → (g c : ℕ)
      → row_cell b branch later g c ≤ cell 0 (u + v)
  row-bound branch later u v h k g c =
      argmax-least _ (length b.row_rules) _ (λ j l. guard-le (eqb (rule_at b.row_rules j).from g) _ _ (argmax-least _ (suc c) _ (λ a m.
      both-le (branch (rule_at b.row_rules j).label a) (later (rule_at b.row_rules j).to (c - a)) u v (h _ _) (k _ _))))

  best-bound : (f : Forest) (g c : ℕ) → best b f g c ≤ cell 0 (worths f)
  unfolding best total
  best-bound nil g c = guard-le (is_end b g) _ _ (cell-grows 0 0 0 zero-le)
  best-bound (node k i below later) g c =
      row-bound (branch_cell b i (best b below)) (best b later) (i.worth + worths below) (worths later)
      (branch-bound i (best b below) (worths below) (best-bound below)) (best-bound later) g c

-- the loads after a number
ordered-drop : (ls : List Load) (k j : ℕ) → Ordered ls k → Ordered (drop j ls) (k + j)
ordered-drop ls k zero o = let e : k + 0 ≡ k = omega arith in rw e o
ordered-drop [] k (suc j) o = tt
ordered-drop (l ∷ ls) k (suc j) o = let e : k + suc j ≡ suc k + j = omega arith in rw e (ordered-drop ls (suc k) j o.2)

pub ordered-after : (ls : List Load) → IsTree ls → (j : ℕ) → Ordered (drop (suc j) ls) (suc (suc j))
ordered-after [] o j = tt
ordered-after (l ∷ ls) o j = let e : suc (suc j) ≡ 2 + j = omega arith in rw e (ordered-drop ls 2 j o)

module _ (item : ℕ → Load → Item) (most : ℕ) where
  -- every load is worth at most that much
  abbrev pub Cheap : List Load → Type 0
  Cheap ls = (k j : ℕ) → (item k (get_or ls j no_load)).worth ≤ most

  sum_bound : (ls : List Load) (k : ℕ) → Cheap ls → sum (λ k l. (item k l).worth) ls k ≤ most * length ls
  unfolding sum
  sum_bound [] k h = zero-le
  sum_bound (l ∷ ls) k h = let s = sum_bound ls (suc k) (λ k j. h k (suc j)) in omega (arith, h k 0, mul-suc most (length ls))

  cheap-drop : (ls : List Load) (j : ℕ) → Cheap ls → Cheap (drop j ls)
  cheap-drop ls j h k i = rw (get_or-drop) (h k (j + i))

  row-worth : (ls : List Load) → IsTree ls → Cheap ls → (j p : ℕ) → p ≤ suc j → worths (row_after item ls (suc j) p) ≤ most * length ls
  row-worth ls o h j p l =
      le_trans (row-le item (λ k i. i.worth) (drop (suc j) ls) (suc j) p (ordered-after ls o j) l)
      (le_trans (sum_bound (drop (suc j) ls) (suc (suc j)) (cheap-drop ls (suc j) h)) (mul-le-mul_left most (omega (arith, length-drop (suc j) ls))))

-- the cells of the loads of a tree: a row below, a row beside and two loads at most
module _ (b : Book) (item : ℕ → Load → Item) (most : ℕ) (ls : List Load) (o : IsTree ls) (h : Cheap item most ls)
    (low : (j : ℕ) → (get_or ls j no_load).parent ≤ j) where
  row-worths : (k : ℕ) → worths (row_at item ls k) ≤ most + most * length ls + most * length ls
  unfolding total
  row-worths zero = zero-le
  row-worths (suc j) =
      omega (arith, h (suc j) j, row-worth item most ls o h j (suc j) (le_refl (suc j)), row-worth item most ls o h j (get_or ls j no_load).parent (omega (arith, low j)))

  pub row_fits : (k g c : ℕ) → row_cells b item ls k g c ≤ cell 0 (most + most * length ls + most * length ls)
  unfolding row_cells
  row_fits k g c = le_trans (best-bound b (row_at item ls k) g c) (cell-grows 0 (worths (row_at item ls k)) _ (row-worths k))

  pub branch_fits : (j q c : ℕ) → branch_cells b item ls (suc j) q c ≤ cell 0 (most + (most + most * length ls + most * length ls))
  unfolding branch_cells
  branch_fits j q c =
      le_trans (branch-bound b (item (suc j) (load_at ls (suc j))) (row_cells b item ls (first_child ls (suc j))) _ (row_fits (first_child ls (suc j))) q c)
      (cell-grows 0 _ _ (omega (arith, h (suc j) j)))
