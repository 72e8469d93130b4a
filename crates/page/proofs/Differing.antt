-- Two pages row by row: how rows are compared, and where the stretch lies. Assumes nothing.
use Prim.Native.Nat.{ℕ, zero, suc, ◌+◌, ◌*◌, ◌-◌, ◌≤◌, ◌<◌, zero-le}
use mathlib.Core.Path.{◌≡◌, refl, sym, ◌∙◌}
use mathlib.Core.Bool.{Bool, true, false, ◌&&◌, ◌||◌, not}
use mathlib.Core.List.{List, [], ◌∷◌}
use native.Mathlib.Omega.{arith}
use borrow.Author.Tests.{eqb-true, not-true, not-false}
use lib.Dec.{eqb}
use lib.ListN.{length, take, drop, length-drop, take-append-drop, drop_of_length-le}
use lib.Seq.{take-add, drop-drop, length-take-le}
use Rattle.std.specs.List.{fold, zip}
use Rattle.std.proofs.Math.Bool.{and_assoc, and-true}
use Rattle.lists.specs.Tests.{pick}
use Rattle.lists.proofs.Bools.{or_left, or_right}
use Rattle.lines.specs.Text.{same}
use Rattle.lines.proofs.Same.{same_refl, same-is}
use Rattle.page.specs.declared.stretch.Rows.{Rows}
use Rattle.page.specs.declared.stretch.Part.{Part}
use Rattle.page.specs.Rows.{row_count, row_bytes, page_bytes}
use Rattle.page.specs.Stretch.{row_at, differs, passing, no_rows, is_page, differing, place}
use Rattle.page.proofs.Rowwise.{passing-fits}

-- ---- a row, as the code compares it: pair by pair
pub length-row_at : (s : List ℕ) (r : ℕ) → r * row_bytes + row_bytes ≤ length s → length (row_at s r) ≡ row_bytes
unfolding row_at
length-row_at s r h = length-take-le row_bytes (drop (r * row_bytes) s) (omega (arith, length-drop (r * row_bytes) s))

abbrev pub and_same : Bool → ℕ × ℕ → Bool
and_same t p = t && eqb p.0 p.1

pub pairs_same : (t : Bool) (a b : List ℕ) → length a ≡ length b → fold and_same t (zip a b) ≡ t && same a b
unfolding same
pairs_same t [] [] e = sym (and-true t)
pairs_same t [] (y ∷ b) e = absurd (omega (arith, e))
pairs_same t (x ∷ a) [] e = absurd (omega (arith, e))
pairs_same t (x ∷ a) (y ∷ b) e = pairs_same (t && eqb x y) a b (omega (arith, e)) ∙ and_assoc t (eqb x y) (same a b)

-- ---- the rows of two pages that are the same
module _ (g d : List ℕ) where
  pub alike : (i : ℕ) → differs g d i ≡ false → row_at g i ≡ row_at d i
  alike i e = same-is (row_at g i) (row_at d i) (not-false (same (row_at g i) (row_at d i)) e)

  pub not-differing : (i : ℕ) → row_at g i ≡ row_at d i → differs g d i ≡ false
  not-differing i e = rw (e, same_refl (row_at d i))

  -- the rows before one
  pub same-front : (k : ℕ) → ((i : ℕ) → i < k → row_at g i ≡ row_at d i) → take (k * row_bytes) g ≡ take (k * row_bytes) d
  unfolding row_at
  same-front zero f = refl
  same-front (suc k) f =
      let e : suc k * row_bytes ≡ k * row_bytes + row_bytes = omega arith in
      rw (e, take-add (k * row_bytes) row_bytes g, take-add (k * row_bytes) row_bytes d, same-front k (λ i l. f i (omega arith)), f k (omega arith))

  -- the rows from one on, n of them being left
  pub same_back : (n k : ℕ) → length g ≤ (k + n) * row_bytes → length d ≤ (k + n) * row_bytes → ((i : ℕ) → k ≤ i → i < k + n → row_at g i ≡ row_at d i)
      → drop (k * row_bytes) g ≡ drop (k * row_bytes) d
  unfolding row_at
  same_back zero k a b f = drop_of_length-le g {i = k * row_bytes} (omega arith) ∙ sym (drop_of_length-le d {i = k * row_bytes} (omega arith))
  same_back (suc n) k a b f =
      let e : k * row_bytes + row_bytes ≡ suc k * row_bytes = omega arith in
      let next = same_back n (suc k) (omega arith) (omega arith) (λ i l m. f i (omega arith) (omega arith)) in
      sym (take-append-drop row_bytes (drop (k * row_bytes) g))
      ∙ rw (f k (omega arith) (omega arith), drop-drop row_bytes (k * row_bytes) g, e, next, ← e, ← (drop-drop row_bytes (k * row_bytes) d)) (take-append-drop row_bytes (drop (k * row_bytes) d))

-- ---- the rows that differ, and where the stretch lies
-- are both of 160 bytes, as the code tests it?
pub pages-bad : (a b : Bool) → not a || not b ≡ true → a && b ≡ false
pages-bad true b e = not-true b e
pages-bad false b e = refl

pub pages-good : (a b : Bool) → not a || not b ≡ false → (a ≡ true) × (b ≡ true)
pages-good a b e = (not-false a (or_left (not a) (not b) e), not-false b (or_right (not a) (not b) e))

module _ (g d : List ℕ) where
  pub rows_fit : {r : Rows} → r ≡ differing g d → (r.first ≤ r.end) × (r.end ≤ row_count)
  unfolding differing
  rows_fit e = rw e (go (is_page g && is_page d))
    where
      go : (b : Bool) → ((pick b (passing (differs g d) row_count) no_rows).first ≤ (pick b (passing (differs g d) row_count) no_rows).end)
          × ((pick b (passing (differs g d) row_count) no_rows).end ≤ row_count)
      go true = passing-fits (differs g d) row_count
      go false = (zero-le, zero-le)

  -- there are rows only in pages
  some-rows : 0 < (differing g d).end → length d ≡ page_bytes
  unfolding differing
  some-rows h = go (is_page g) refl (is_page d) refl h
    where
      go : (a : Bool) → is_page g ≡ a → (b : Bool) → is_page d ≡ b → 0 < (pick (a && b) (passing (differs g d) row_count) no_rows).end → length d ≡ page_bytes
      go true p true q h = eqb-true (length d) page_bytes q
      go true p false q h = absurd (omega arith)
      go false p b q h = absurd (omega arith)

  pub place-fits : {q : Part} → q ≡ place g d → q.start + q.count ≤ length d
  unfolding place
  place-fits is = rw is (go (differing g d).end refl)
    where
      f : ((differing g d).first ≤ (differing g d).end) × ((differing g d).end ≤ row_count)
      f = rows_fit refl

      go : (m : ℕ) → (differing g d).end ≡ m → (differing g d).first * row_bytes + ((differing g d).end - (differing g d).first) * row_bytes ≤ length d
      go zero e = omega (arith, e, f.0)
      go (suc m) e = omega (arith, e, f.0, f.1, some-rows (omega (arith, e)))
