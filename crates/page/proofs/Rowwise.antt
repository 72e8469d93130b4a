-- The first and the last of some rows that pass a test. Assumes nothing.
use Prim.Native.Nat.{ℕ, zero, suc, ◌+◌, ◌-◌, ◌≤◌, ◌<◌, zero-le}
use mathlib.Core.Path.{◌≡◌, refl, ap, ◌∙◌}
use mathlib.Core.Bool.{Bool, true, false}
use native.Mathlib.Numerals.{add-one}
use native.Mathlib.Omega.{arith}
use borrow.Author.Tests.{ne_eqb, eqb-true, eqb-false}
use lib.Dec.{eqb}
use Rattle.lists.specs.Tests.{pick}
use Rattle.page.specs.declared.stretch.Rows.{Rows}
use Rattle.page.specs.Stretch.{first_of, end_of, passing}

-- ---- the first
first-is : (p : ℕ → Bool) (n k : ℕ) → k < n → p k ≡ true → ((i : ℕ) → i < k → p i ≡ false) → first_of p n ≡ k
unfolding first_of
first-is p zero k h e f = absurd (omega arith)
first-is p (suc n) zero h e f = rw e
first-is p (suc n) (suc k) h e f = rw (f 0 (omega arith)) (ap suc (first-is (λ i. p (suc i)) n k (omega arith) e (λ i l. f (suc i) (omega arith))))

first_below : (p : ℕ → Bool) (n j : ℕ) → j < n → p j ≡ true → first_of p n ≤ j
unfolding first_of
first_below p zero j h e = absurd (omega arith)
first_below p (suc n) zero h e = rw e zero-le
first_below p (suc n) (suc j) h e = go (p 0) (first_below (λ i. p (suc i)) n j (omega arith) e)
  where
    go : (b : Bool) → first_of (λ i. p (suc i)) n ≤ j → pick b 0 (suc (first_of (λ i. p (suc i)) n)) ≤ suc j
    go true l = zero-le
    go false l = omega arith

pub before-first : (p : ℕ → Bool) (n i : ℕ) → i < first_of p n → p i ≡ false
unfolding first_of
before-first p zero i h = absurd (omega arith)
before-first p (suc n) i h = go (p 0) refl i h (λ j. before-first (λ k. p (suc k)) n j)
  where
    go : (b : Bool) → p 0 ≡ b → (i : ℕ) → i < pick b 0 (suc (first_of (λ k. p (suc k)) n)) → ((j : ℕ) → j < first_of (λ k. p (suc k)) n → p (suc j) ≡ false) → p i ≡ false
    go true e i l ih = absurd (omega arith)
    go false e zero l ih = e
    go false e (suc i) l ih = ih i (omega arith)

pub first_passes : (p : ℕ → Bool) (n : ℕ) → first_of p n < n → p (first_of p n) ≡ true
unfolding first_of
first_passes p zero h = absurd (omega arith)
first_passes p (suc n) h = go (p 0) refl h (first_passes (λ i. p (suc i)) n)
  where
    go : (b : Bool) → p 0 ≡ b → pick b 0 (suc (first_of (λ i. p (suc i)) n)) < suc n → (first_of (λ i. p (suc i)) n < n → p (suc (first_of (λ i. p (suc i)) n)) ≡ true)
        → p (pick b 0 (suc (first_of (λ i. p (suc i)) n))) ≡ true
    go true e l ih = e
    go false e l ih = ih (omega arith)

-- ---- the end
pub end-most : (p : ℕ → Bool) (n : ℕ) → end_of p n ≤ n
unfolding end_of
end-most p zero = zero-le
end-most p (suc n) = go (p n) (end-most p n)
  where
    go : (b : Bool) → end_of p n ≤ n → pick b (suc n) (end_of p n) ≤ suc n
    go true l = omega arith
    go false l = omega arith

pub after-end : (p : ℕ → Bool) (n i : ℕ) → end_of p n ≤ i → i < n → p i ≡ false
unfolding end_of
after-end p zero i l h = absurd (omega arith)
after-end p (suc n) i l h = go (p n) refl l (after-end p n i) (eqb i n) refl
  where
    go : (b : Bool) → p n ≡ b → pick b (suc n) (end_of p n) ≤ i → (end_of p n ≤ i → i < n → p i ≡ false) → (t : Bool) → eqb i n ≡ t → p i ≡ false
    go true e l ih t q = absurd (omega (arith, h))
    go false e l ih true q = ap p (eqb-true i n q) ∙ e
    go false e l ih false q = ih l (omega (arith, h, eqb-false i n q))

pub end-passes : (p : ℕ → Bool) (n : ℕ) → 0 < end_of p n → p (end_of p n - 1) ≡ true
unfolding end_of
end-passes p zero h = absurd (omega arith)
end-passes p (suc n) h = go (p n) refl h (end-passes p n)
  where
    go : (b : Bool) → p n ≡ b → 0 < pick b (suc n) (end_of p n) → (0 < end_of p n → p (end_of p n - 1) ≡ true) → p (pick b (suc n) (end_of p n) - 1) ≡ true
    go true e l ih = let q : suc n - 1 ≡ n = omega arith in rw q e
    go false e l ih = ih l

pub end_none : (p : ℕ → Bool) (n : ℕ) → ((i : ℕ) → i < n → p i ≡ false) → end_of p n ≡ 0
unfolding end_of
end_none p zero f = refl
end_none p (suc n) f = rw (f n (omega arith)) (end_none p n (λ i l. f i (omega arith)))

-- ---- both
module _ (p : ℕ → Bool) (n : ℕ) where
  -- where some row passes, the first stands before the end
  pub first-end : 0 < end_of p n → first_of p n < end_of p n
  first-end h = omega (arith, first_below p n (end_of p n - 1) (omega (arith, end-most p n)) (end-passes p n h))

  -- one row more
  same_first : 0 < end_of p n → first_of p (suc n) ≡ first_of p n
  same_first h =
      let l = first-end h in
      first-is p (suc n) (first_of p n) (omega (arith, l, end-most p n)) (first_passes p n (omega (arith, l, end-most p n))) (before-first p n)

  new-first : end_of p n ≡ 0 → p n ≡ true → first_of p (suc n) ≡ n
  new-first z e = first-is p (suc n) n (omega arith) e (λ i l. after-end p n i (omega arith) l)

  pub passing-miss : p n ≡ false → passing p n ≡ passing p (n + 1)
  unfolding end_of
  passing-miss e = rw (add-one n, e) (go (end_of p n) refl)
    where
      go : (m : ℕ) → end_of p n ≡ m → ◌≡◌ {A = Rows} (record { first = pick (eqb m 0) 0 (first_of p n); end = m }) (record { first = pick (eqb m 0) 0 (first_of p (suc n)); end = m })
      go zero z = refl
      go (suc m) z = rw (same_first (omega (arith, z)))

  -- it passes, and is the first that does
  pub passing-first : p n ≡ true → end_of p n ≡ 0 → ◌≡◌ {A = Rows} (record { first = n; end = n + 1 }) (passing p (n + 1))
  unfolding end_of
  passing-first e z = rw (add-one n, e, ne_eqb (suc n) 0 (λ q. absurd (omega arith)), new-first z e)

  -- it passes, and another did before it
  pub passing-later : p n ≡ true → (end_of p n ≡ 0 → ⊥) → ◌≡◌ {A = Rows} (record { first = (passing p n).first; end = n + 1 }) (passing p (n + 1))
  unfolding end_of
  passing-later e s = rw (add-one n, e, ne_eqb (suc n) 0 (λ q. absurd (omega arith)), ne_eqb (end_of p n) 0 s, same_first (omega (arith, s)))

-- they lie among the n rows
pub passing-fits : (p : ℕ → Bool) (n : ℕ) → ((passing p n).first ≤ (passing p n).end) × ((passing p n).end ≤ n)
passing-fits p n = (go (end_of p n) refl, end-most p n)
  where
    go : (m : ℕ) → end_of p n ≡ m → pick (eqb m 0) 0 (first_of p n) ≤ m
    go zero z = zero-le
    go (suc m) z = rw (ne_eqb (suc m) 0 (λ q. absurd (omega arith))) (omega (arith, z, first-end p n (omega (arith, z))))
