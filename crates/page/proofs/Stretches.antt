-- What a stretch does to the glass, and that no rows that do so are fewer. Assumes nothing.
use Prim.Native.Nat.{ℕ, zero, suc, ◌+◌, ◌*◌, ◌-◌, ◌≤◌, ◌<◌, zero-le}
use mathlib.Core.Path.{◌≡◌, refl, sym, ap, ◌∙◌}
use mathlib.Core.Bool.{Bool, true, false, ◌&&◌}
use mathlib.Core.List.{List, [], ◌++◌, append_assoc}
use mathlib.Core.Logic.{◌⊎◌, inl, inr, ◌↔◌}
use native.Mathlib.Omega.{arith}
use borrow.Author.Tests.{eq-eqb, ne_eqb, eqb-true}
use lib.Dec.{eqb}
use lib.ListN.{length, take, drop, length-append, length-drop, take-append-drop}
use lib.Seq.{sets, sets-eq, take-add, length-take-le, drop-append-add}
use Rattle.lists.specs.Tests.{pick}
use Rattle.lists.proofs.Bools.{and-false, below_or}
use Rattle.calls.proofs.Work.{clash}
use Rattle.page.specs.declared.stretch.Rows.{Rows}
use Rattle.page.specs.Rows.{row_count, row_bytes, page_bytes}
use Rattle.page.specs.Stretch.{row_at, differs, first_of, end_of, passing, no_rows, is_page, differing, place, stretch, beginning}
use Rattle.page.specs.Claims.{StretchRight}
use Rattle.page.proofs.Rowwise.{end-most, after-end, before-first, first-end, end_none, first_passes, end-passes}
use Rattle.page.proofs.Differing.{alike, not-differing, same-front, same_back, rows_fit, place-fits}
use Rattle.page.proofs.Pages.{row_inside}

-- ---- a part of a page put on another that is the same before and behind it
put_back : (g d : List ℕ) (a n : ℕ) → a + n ≤ length g → length g ≡ length d → take a g ≡ take a d → drop (a + n) g ≡ drop (a + n) d
    → sets g a (take n (drop a d)) ≡ d
put_back g d a n h l front back =
    let v = take n (drop a d) in
    let size : length v ≡ n = length-take-le n (drop a d) (omega (arith, length-drop a d)) in
    sets-eq v g a (omega (arith, size)) ∙ rw (size, front, back, ← (take-add a n d)) (take-append-drop (a + n) d)

-- ---- the rows outside of what was put on a page
row-behind : (q z : List ℕ) (r j : ℕ) → length q ≡ j * row_bytes → j ≤ r → row_at (q ++ z) r ≡ row_at z (r - j)
unfolding row_at
row-behind q z r j e h =
    let n : r * row_bytes ≡ length q + (r - j) * row_bytes = omega (arith, e) in
    rw (n, drop-append-add q z ((r - j) * row_bytes))

module _ (g rows : List ℕ) (i n : ℕ) (size : length rows ≡ n * row_bytes) (inside : (i + n) * row_bytes ≤ length g) where
  abbrev p : List ℕ
  p = take (i * row_bytes) g

  abbrev z : List ℕ
  z = drop (i * row_bytes + length rows) g

  before : length p ≡ i * row_bytes
  before = length-take-le (i * row_bytes) g (omega arith)

  put_is : sets g (i * row_bytes) rows ≡ p ++ rows ++ z
  put_is = sets-eq rows g (i * row_bytes) (omega (arith, size))

  row_before : (r : ℕ) → r < i → row_at g r ≡ row_at (sets g (i * row_bytes) rows) r
  row_before r h =
      ap (λ (x : List ℕ). row_at x r) (sym (take-append-drop (i * row_bytes) g)) ∙ row_inside p (drop (i * row_bytes) g) r (omega (arith, before))
      ∙ sym (row_inside p (rows ++ z) r (omega (arith, before))) ∙ ap (λ (x : List ℕ). row_at x r) (sym (append_assoc p rows z) ∙ sym put_is)

  row-after : (r : ℕ) → i + n ≤ r → row_at g r ≡ row_at (sets g (i * row_bytes) rows) r
  row-after r h =
      let all = i * row_bytes + length rows in
      let head : length (take all g) ≡ (i + n) * row_bytes = length-take-le all g (omega (arith, size)) ∙ omega (arith, size) in
      let put : length (p ++ rows) ≡ (i + n) * row_bytes = omega (arith, length-append p rows, before, size) in
      ap (λ (x : List ℕ). row_at x r) (sym (take-append-drop all g)) ∙ row-behind (take all g) z r (i + n) head h
      ∙ sym (row-behind (p ++ rows) z r (i + n) put h) ∙ ap (λ (x : List ℕ). row_at x r) (sym put_is)

-- ---- any two pages
module _ (g d : List ℕ) where
  abbrev test : ℕ → Bool
  test = differs g d

  stretch-length : length (stretch g d) ≡ (place g d).count
  unfolding stretch
  stretch-length = length-take-le (place g d).count (drop (place g d).start d) (omega (arith, length-drop (place g d).start d, place-fits g d refl))

  -- it is empty exactly where no row is named
  end_empty : (differing g d).end ≡ 0 → length (stretch g d) ≡ 0
  unfolding place
  end_empty e = stretch-length ∙ omega (arith, e, (rows_fit g d refl).0)

  not-pages : (is_page g ≡ false) ⊎ (is_page d ≡ false) → differing g d ≡ no_rows
  unfolding differing
  not-pages (inl e) = rw e
  not-pages (inr e) = rw (e, and-false (is_page g))

  module _ (a : is_page g ≡ true) (b : is_page d ≡ true) where
    pages : differing g d ≡ passing test row_count
    unfolding differing
    pages = rw (a, b)

    glass : length g ≡ page_bytes
    glass = eqb-true (length g) page_bytes a

    drawn : length d ≡ page_bytes
    drawn = eqb-true (length d) page_bytes b

    -- no row differs
    equal : end_of test row_count ≡ 0 → g ≡ d
    equal e = same_back g d row_count 0 (omega (arith, glass)) (omega (arith, drawn)) (λ i l m. alike g d i (after-end test row_count i (omega (arith, e)) m))

    nothing-to-put : end_of test row_count ≡ 0 → stretch g d ≡ []
    unfolding stretch place
    nothing-to-put e = rw (pages, e)

    -- some row differs: where the stretch lies
    module _ (h : 0 < end_of test row_count) where
      abbrev f : ℕ
      f = first_of test row_count

      abbrev e : ℕ
      e = end_of test row_count

      later : f < e
      later = first-end test row_count h

      rows_are : differing g d ≡ record { first = f; end = e }
      rows_are = pages ∙ rw (ne_eqb e 0 (λ z. absurd (omega (arith, h, z))))

      stretch-is : stretch g d ≡ take ((e - f) * row_bytes) (drop (f * row_bytes) d)
      unfolding stretch place
      stretch-is = rw rows_are

      starts : (place g d).start ≡ f * row_bytes
      unfolding place
      starts = rw rows_are

      puts-rows : sets g (f * row_bytes) (take ((e - f) * row_bytes) (drop (f * row_bytes) d)) ≡ d
      puts-rows =
          let most = end-most test row_count in
          let end : f * row_bytes + (e - f) * row_bytes ≡ e * row_bytes = omega (arith, later) in
          put_back g d (f * row_bytes) ((e - f) * row_bytes) (omega (arith, end, most, glass)) (omega (arith, glass, drawn))
          (same-front g d f (λ i l. alike g d i (before-first test row_count i l)))
          (rw end (same_back g d (row_count - e) e (omega (arith, most, glass)) (omega (arith, most, drawn)) (λ i l m. alike g d i (after-end test row_count i l (omega (arith, most))))))

      -- other rows that do so cover it
      module _ (i n : ℕ) (rows : List ℕ) (size : length rows ≡ n * row_bytes) (inside : i + n ≤ row_count) (same : sets g (i * row_bytes) rows ≡ d) where
        fits : (i + n) * row_bytes ≤ length g
        fits = omega (arith, glass)

        not-before : i ≤ f
        not-before = go (below_or f i)
          where
            go : (f < i) ⊎ (i ≤ f) → i ≤ f
            go (inl l) = absurd (clash (sym (first_passes test row_count (omega (arith, later, end-most test row_count))) ∙ not-differing g d f (row_before g rows i n size fits f l ∙ ap (λ (x : List ℕ). row_at x f) same)))
            go (inr l) = l

        not_after : e ≤ i + n
        not_after = go (below_or (i + n) e)
          where
            go : (i + n < e) ⊎ (e ≤ i + n) → e ≤ i + n
            go (inl l) = absurd (clash (sym (end-passes test row_count h) ∙ not-differing g d (e - 1) (row-after g rows i n size fits (e - 1) (omega (arith, l)) ∙ ap (λ (x : List ℕ). row_at x (e - 1)) same)))
            go (inr l) = l

        covers : length (stretch g d) ≤ length rows
        unfolding place
        covers = omega (arith, stretch-length ∙ ap (λ (r : Rows). (r.end - r.first) * row_bytes) rows_are, not-before, not_after, size)

    puts : sets g (place g d).start (stretch g d) ≡ d
    puts = go (end_of test row_count) refl
      where
        go : (m : ℕ) → end_of test row_count ≡ m → sets g (place g d).start (stretch g d) ≡ d
        go zero q = rw (nothing-to-put q) (equal q)
        go (suc m) q = let h : 0 < end_of test row_count = omega (arith, q) in rw (starts h, stretch-is h) (puts-rows h)

    shortest : (i n : ℕ) (rows : List ℕ) → length rows ≡ n * row_bytes → i + n ≤ row_count → sets g (i * row_bytes) rows ≡ d → length (stretch g d) ≤ length rows
    shortest i n rows size inside same = go (end_of test row_count) refl
      where
        go : (m : ℕ) → end_of test row_count ≡ m → length (stretch g d) ≤ length rows
        go zero q = rw (nothing-to-put q) zero-le
        go (suc m) q = covers (omega (arith, q)) i n rows size inside same

  -- empty exactly where no row is named
  none_named : (beginning g d ≡ 0) ↔ (length (stretch g d) ≡ 0)
  unfolding beginning differing place
  none_named = go (is_page g) refl (is_page d) refl
    where
      bad : differing g d ≡ no_rows → (beginning g d ≡ 0) ↔ (length (stretch g d) ≡ 0)
      bad e = (λ z. end_empty (ap (λ (r : Rows). r.end) e), λ z. rw e)

      named : (m : ℕ) (a : is_page g ≡ true) (b : is_page d ≡ true) → end_of test row_count ≡ m → (beginning g d ≡ 0) ↔ (length (stretch g d) ≡ 0)
      named zero a b q = (λ z. end_empty (ap (λ (r : Rows). r.end) (pages a b) ∙ q), λ z. rw (pages a b, q))
      named (suc m) a b q =
          let h : 0 < end_of test row_count = omega (arith, q) in
          let some : (place g d).count ≡ (e a b h - f a b h) * row_bytes = ap (λ (r : Rows). (r.end - r.first) * row_bytes) (rows_are a b h) in
          (λ z. absurd (omega (arith, z, rw (rows_are a b h, ne_eqb (e a b h) 0 (λ y. absurd (omega (arith, h, y)))) at z)), λ z. absurd (omega (arith, z, stretch-length, some, later a b h)))

      go : (a : Bool) → is_page g ≡ a → (b : Bool) → is_page d ≡ b → (beginning g d ≡ 0) ↔ (length (stretch g d) ≡ 0)
      go true p true q = named (end_of test row_count) p q refl
      go true p false q = bad (not-pages (inr q))
      go false p b q = bad (not-pages (inl p))

  row-of-place : (place g d).start ≡ (beginning g d - 1) * row_bytes
  unfolding place beginning
  row-of-place = go (differing g d).end refl
    where
      go : (m : ℕ) → (differing g d).end ≡ m → (differing g d).first * row_bytes ≡ (pick (eqb (differing g d).end 0) 0 (suc (differing g d).first) - 1) * row_bytes
      go zero e = rw (eq-eqb (differing g d).end 0 e) (omega (arith, e, (rows_fit g d refl).0))
      go (suc m) e = rw (ne_eqb (differing g d).end 0 (λ z. absurd (omega (arith, e, z)))) (omega arith)

  equal-pages : g ≡ d → length (stretch g d) ≡ 0
  unfolding differing
  equal-pages e = end_empty (go (is_page g && is_page d))
    where
      go : (b : Bool) → (pick b (passing test row_count) no_rows).end ≡ 0
      go true = end_none test row_count (λ i l. not-differing g d i (ap (λ (x : List ℕ). row_at x i) e))
      go false = refl

  pub stretch-right : StretchRight g d
  stretch-right = record {
    puts = puts;
    shortest = λ i n rows a b. shortest a b i n rows;
    row = row-of-place;
    count = stretch-length;
    same = equal-pages;
    no_page = λ o. end_empty (ap (λ (r : Rows). r.end) (not-pages o));
    none = none_named;
  }
