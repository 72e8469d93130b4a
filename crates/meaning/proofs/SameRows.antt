-- Two lists of loads that agree on a row and on all that is below it have the same row as a forest, and so the same best for it, from each
-- stage and at each allowance, whatever else they hold. Request Seven asks for that. Assumes nothing.
use Prim.Native.Nat.{ℕ, zero, suc, ◌+◌, ◌-◌, ◌≤◌, ◌<◌}
use mathlib.Core.Path.{◌≡◌, refl, sym, ap, subst, ◌∙◌}
use mathlib.Core.Bool.{Bool, true, false}
use mathlib.Core.List.{List, [], ◌∷◌, ◌++◌}
use mathlib.Core.Logic.{◌⊎◌, inl, inr}
use native.Mathlib.Nat.{eq-or-lt_of_le}
use native.Mathlib.Omega.{arith}
use native.Mathlib.Decide.{dec_lt}
use borrow.Author.Tests.{eqb-true, eqb-false, eq-eqb, ne_eqb}
use lib.Dec.{eqb}
use lib.ListN.{length, get_or, drop_of_length-le, get_or-eq_default, get_or-append}
use lib.Seq.{drop-cons}
use Rattle.tables.specs.declared.load.Load.{Load}
use Rattle.tables.specs.Tables.{Book, no_load}
use Rattle.meaning.specs.Forest.{Item, Forest, nil, node, row, row_after, row_at}
use Rattle.meaning.specs.Best.{best}
use Rattle.meaning.specs.Cells.{load_at, row_cells}
use Rattle.meaning.specs.Agree.{InRow, first, later, below, SameLoad, AgreeOn}

-- load j + 1 is there, and a child of load p
abbrev Child : List Load → (j p : ℕ) → Type 0
Child ls j p = (j < length ls) × ((get_or ls j no_load).parent ≡ p)

child? : (ls : List Load) (j p : ℕ) → Child ls j p ⊎ (Child ls j p → ⊥)
child? ls j p = go (dec_lt j (length ls)) (eqb (get_or ls j no_load).parent p) refl
  where
    go : Dec (j < length ls) → (t : Bool) → eqb (get_or ls j no_load).parent p ≡ t → Child ls j p ⊎ (Child ls j p → ⊥)
    go (yes l) true e = inl (l, eqb-true _ _ e)
    go (yes l) false e = inr (λ c. eqb-false _ _ e c.1)
    go (no l) true e = inr (λ c. l c.0)
    go (no l) false e = inr (λ c. l c.0)

-- what load j + 1 does to the row of load p's children
module _ (item : ℕ → Load → Item) (ls : List Load) (j p : ℕ) where
  row-end : length ls ≤ j → row_after item ls j p ≡ nil
  unfolding row
  row-end h = rw (drop_of_length-le ls {i = j} h)

  row-child : Child ls j p
      → row_after item ls j p ≡ node (suc j) (item (suc j) (get_or ls j no_load)) (row_after item ls (suc j) (suc j)) (row_after item ls (suc j) p)
  unfolding row
  row-child c = rw (drop-cons ls j no_load c.0, eq-eqb _ _ c.1)

  row_other : (Child ls j p → ⊥) → row_after item ls j p ≡ row_after item ls (suc j) p
  unfolding row
  row_other n = go (dec_lt j (length ls))
    where
      go : Dec (j < length ls) → row_after item ls j p ≡ row_after item ls (suc j) p
      go (yes l) = rw (drop-cons ls j no_load l, ne_eqb _ _ (λ e. n (l, e)))
      go (no l) = rw (drop_of_length-le ls {i = j} (omega arith), drop_of_length-le ls {i = suc j} (omega arith))

-- the children of load p after load j are in the row from load k onward, or below it
abbrev Within : List Load → (k j p : ℕ) → Type 0
Within ls k j p = (i : ℕ) → j < i → i ≤ length ls → (load_at ls i).parent ≡ p → InRow ls k i

within-next : (ls : List Load) (k j p : ℕ) → Within ls k j p → Within ls k (suc j) p
within-next ls k j p w i l h e = w i (omega arith) h e

within-below : (ls : List Load) (k i : ℕ) → InRow ls k i → Within ls k i i
within-below ls k i r j l h e = below i j r l h e

module _ (item : ℕ → Load → Item) (ls ls' : List Load) (k : ℕ) (agree : AgreeOn ls ls' k) where
  -- the children of load p after load j are the same in both, as forests
  abbrev Same : (j p : ℕ) → Type 0
  Same j p = row_after item ls j p ≡ row_after item ls' j p

  -- load j + 1 is a child of load p in both, the same load with the same below it, or in neither
  rows_step : (j p : ℕ) → Within ls k j p → Within ls' k j p
      → (InRow ls k (suc j) → InRow ls' k (suc j) → Same (suc j) (suc j)) → Same (suc j) p → Same j p
  rows_step j p w w' under next = go (child? ls j p) (child? ls' j p)
    where
      both : Child ls j p → Child ls' j p → get_or ls j no_load ≡ get_or ls' j no_load → Same j p
      both c c' e =
          row-child item ls j p c
          ∙ rw (e, under (w (suc j) (omega arith) c.0 c.1) (w' (suc j) (omega arith) c'.0 c'.1), next) (sym (row-child item ls' j p c'))

      go : Child ls j p ⊎ (Child ls j p → ⊥) → Child ls' j p ⊎ (Child ls' j p → ⊥) → Same j p
      go (inl c) d =
          let s = agree (suc j) (inl (w (suc j) (omega arith) c.0 c.1)) in
          both c (s.other, ap (λ (l : Load). l.parent) (sym s.same) ∙ c.1) s.same
      go (inr n) (inl c') =
          let s = agree (suc j) (inr (w' (suc j) (omega arith) c'.0 c'.1)) in
          absurd (n (s.one, ap (λ (l : Load). l.parent) s.same ∙ c'.1))
      go (inr n) (inr n') = row_other item ls j p n ∙ next ∙ sym (row_other item ls' j p n')

  rows-from : (n j p : ℕ) → length ls ≤ j + n → length ls' ≤ j + n → Within ls k j p → Within ls' k j p → Same j p
  rows-from zero j p h h' w w' = row-end item ls j p (omega arith) ∙ sym (row-end item ls' j p (omega arith))
  rows-from (suc n) j p h h' w w' =
      rows_step j p w w'
      (λ r r'. rows-from n (suc j) (suc j) (omega arith) (omega arith) (within-below ls k (suc j) r) (within-below ls' k (suc j) r'))
      (rows-from n (suc j) p (omega arith) (omega arith) (within-next ls k j p w) (within-next ls' k j p w'))

  rows-after : (j p : ℕ) → Within ls k j p → Within ls' k j p → Same j p
  rows-after j p = rows-from (length ls + length ls') j p (omega arith) (omega arith)

-- where one has load j + 1, the other has the same; where neither has it, both read as no load
load_same : (ls ls' : List Load) (j : ℕ) → AgreeOn ls ls' (suc j) → get_or ls j no_load ≡ get_or ls' j no_load
load_same ls ls' j agree = go (dec_lt j (length ls)) (dec_lt j (length ls'))
  where
    go : Dec (j < length ls) → Dec (j < length ls') → get_or ls j no_load ≡ get_or ls' j no_load
    go (yes l) d = (agree (suc j) (inl (first (omega arith) l))).same
    go (no n) (yes l) = (agree (suc j) (inr (first (omega arith) l))).same
    go (no n) (no n') = get_or-eq_default ls no_load (omega arith) ∙ sym (get_or-eq_default ls' no_load (omega arith))

-- lists that agree on the row from load k onward have the same row
pub rows_same : (item : ℕ → Load → Item) (ls ls' : List Load) (k : ℕ) → AgreeOn ls ls' k → row_at item ls k ≡ row_at item ls' k
rows_same item ls ls' zero agree = refl
rows_same item ls ls' (suc j) agree =
    rw (
      e,
      rows-after item ls ls' (suc j) agree (suc j) (suc j) (under ls) (under ls'),
      rows-after item ls ls' (suc j) agree (suc j) (get_or ls' j no_load).parent
          (λ i l h q. later i (omega arith) l h (q ∙ sym (ap (λ (x : Load). x.parent) e)))
          (λ i l h q. later i (omega arith) l h q),
    )
  where
    e : get_or ls j no_load ≡ get_or ls' j no_load
    e = load_same ls ls' j agree

    under : (xs : List Load) → Within xs (suc j) (suc j) (suc j)
    under xs i l h q = below (suc j) i (first (omega arith) (omega arith)) l h q

-- "get the same best for that row, from each stage and at each allowance"
pub best-same : (b : Book) (item : ℕ → Load → Item) (ls ls' : List Load) (k : ℕ) → AgreeOn ls ls' k
    → (g c : ℕ) → row_cells b item ls k g c ≡ row_cells b item ls' k g c
unfolding row_cells
best-same b item ls ls' k agree g c = ap (λ (r : Forest). best b r g c) (rows_same item ls ls' k agree)

-- An example: the row from load 4 onward has loads 4 and 5, and load 6 below load 4. The other list has another load 1, another load 3 and
-- a load 7 below that.
abbrev load : ℕ → ℕ → ℕ → Load
load p w v = record { parent = p; kind = 0; power = w; worth = v }

abbrev shared : List Load
shared = load 2 7 50 ∷ load 2 9 20 ∷ load 4 6 20 ∷ []

abbrev pub six_loads : List Load
six_loads = load 0 10 0 ∷ load 1 15 40 ∷ load 1 5 30 ∷ shared

abbrev pub seven_loads : List Load
seven_loads = load 0 8 5 ∷ load 1 15 40 ∷ load 2 6 31 ∷ shared ++ (load 3 1 1 ∷ [])

six-within : {j : ℕ} → InRow six_loads 4 j → (4 ≤ j) × (j ≤ 6)
six-within (first p l) = (omega arith, omega arith)
six-within (later j p l h e) = (omega arith, h)
six-within (below i j r l h e) = (omega (arith, (six-within r).0), h)

-- load 7 is not in the row, for its parent is load 3
not-seven : (j i : ℕ) → (i ≡ 3 → ⊥) → j ≤ 7 → (load_at seven_loads j).parent ≡ i → j ≤ 6
not-seven j i n h e = go (eq-or-lt_of_le h)
  where
    go : (j ≡ 7) ⊎ (j < 7) → j ≤ 6
    go (inl q) = absurd (n (sym e ∙ ap (λ (m : ℕ). (load_at seven_loads m).parent) q))
    go (inr l) = omega arith

seven-within : {j : ℕ} → InRow seven_loads 4 j → (4 ≤ j) × (j ≤ 6)
seven-within (first p l) = (omega arith, omega arith)
seven-within (later j p l h e) = (omega arith, not-seven j 2 (omega arith) h e)
seven-within (below i j r l h e) = (omega (arith, (seven-within r).0), not-seven j i (omega (arith, (seven-within r).0)) h e)

shared_same : (j : ℕ) → (4 ≤ j) × (j ≤ 6) → SameLoad six_loads seven_loads j
shared_same j h =
    let q : suc (suc (suc (suc (j - 4)))) ≡ j = omega (arith, h.0) in
    record {
      one = h.1;
      other = omega (arith, h.1);
      same = subst (λ (m : ℕ). load_at six_loads m ≡ load_at seven_loads m) q
          (sym (get_or-append shared (load 3 1 1 ∷ []) no_load (j - 4) (omega (arith, h.1))));
    }

-- they agree on that row
pub example-agrees : AgreeOn six_loads seven_loads 4
example-agrees j (inl r) = shared_same j (six-within r)
example-agrees j (inr r) = shared_same j (seven-within r)

-- which has a load below a load
pub example-below : InRow six_loads 4 6
example-below = below 4 6 (first (omega arith) (omega arith)) (omega arith) (omega arith) refl
