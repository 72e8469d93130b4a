-- Sets of loads: what a set with a load more holds, and how many; and a set with no loads but its first ones. Other crates use these, and not how a
-- set is held. Assumes nothing.
use Prim.Native.Nat.{ℕ, zero, suc, min, ◌+◌, ◌-◌, ◌%◌, ◌^◌, ◌≤◌, ◌<◌, zero-le}
use mathlib.Core.Path.{◌≡◌, refl, sym, ap, ◌∙◌}
use mathlib.Core.Bool.{Bool, true, false}
use native.Mathlib.Nat.{mod-lt, mod-eq_of_lt}
use native.Mathlib.Omega.{arith}
use borrow.Author.Tests.{leb-true, leb-false, le-leb, lt-leb, ltb-true, lt-ltb}
use lib.Dec.{leb}
use lib.Pow.{pow_pos}
use Rattle.lists.specs.Tests.{pick}
use Rattle.lists.proofs.Bools.{and_left, and_right}
use Rattle.marks.specs.Bits.{has_mark, up_to, with_mark, size_to, size}
use Rattle.marks.specs.declared.LoadSet.{LoadSet}
use Rattle.marks.specs.Sets.{half_width, set_width, no_loads, joined, has_load, loads_up_to, size_of}
use Rattle.marks.proofs.Laws.{within-true, with-out, has-with-same, has-with-other, has-none, mark-more, mark-less}

-- ---- the two ways out of the code, by the half in which a load stands
module _ (s : LoadSet) (n : ℕ) where
  pub joined-low : n ≤ half_width → record { low = with_mark half_width s.low n; high = s.high } ≡ joined s n
  unfolding joined
  joined-low h = λ i. record { low = with_mark half_width s.low n; high = with-out half_width s.high (n - half_width) (λ p q. omega arith) i }

  pub joined-high : half_width < n → record { low = s.low; high = with_mark half_width s.high (n - half_width) } ≡ joined s n
  unfolding joined
  joined-high h = λ i. record { low = with-out half_width s.low n (λ p q. omega arith) i; high = with_mark half_width s.high (n - half_width) }

  pub has-low : n ≤ half_width → has_mark s.low n ≡ has_load s n
  unfolding has_load
  has-low h = rw (le-leb n half_width h)

  pub has-high : half_width < n → has_mark s.high (n - half_width) ≡ has_load s n
  unfolding has_load
  has-high h = rw (lt-leb n half_width h)

-- ---- sets
pub has-no-loads : (n : ℕ) → has_load no_loads n ≡ false
unfolding has_load
has-no-loads n = rw (has-none n, has-none (n - half_width)) (go (leb n half_width))
  where
    go : (b : Bool) → pick b false false ≡ false
    go true = refl
    go false = refl

-- a load that a set can hold is in the set with it
pub has-joined-same : (s : LoadSet) (n : ℕ) → 0 < n → n ≤ set_width → has_load (joined s n) n ≡ true
unfolding has_load joined
has-joined-same s n p h = go (leb n half_width) refl
  where
    go : (b : Bool) → leb n half_width ≡ b
        → pick b (has_mark (with_mark half_width s.low n) n) (has_mark (with_mark half_width s.high (n - half_width)) (n - half_width)) ≡ true
    go true e = has-with-same half_width s.low n (within-true half_width n (λ z. omega (arith, p)) (leb-true n half_width e))
    go false e =
        has-with-same half_width s.high (n - half_width)
        (within-true half_width (n - half_width) (λ z. omega (arith, leb-false n half_width e)) (omega (arith, h)))

-- and every other is where it was
pub has-joined-other : (s : LoadSet) (n m : ℕ) → (m ≡ n → ⊥) → has_load (joined s n) m ≡ has_load s m
unfolding has_load joined
has-joined-other s n m d = go (leb m half_width) refl
  where
    go : (b : Bool) → leb m half_width ≡ b
        → pick b (has_mark (with_mark half_width s.low n) m) (has_mark (with_mark half_width s.high (n - half_width)) (m - half_width))
        ≡ pick b (has_mark s.low m) (has_mark s.high (m - half_width))
    go true e = has-with-other half_width s.low n m d
    go false e = has-with-other half_width s.high (n - half_width) (m - half_width) (λ q. d (omega (arith, leb-false m half_width e)))

-- ---- their size
near : (p q : ℕ → Bool) (n : ℕ) → ((k : ℕ) → k ≤ n → p k ≡ q k) → size_to p n ≡ size_to q n
unfolding size_to
near p q zero h = refl
near p q (suc n) h = rw (near p q n (λ k l. h k (omega arith)), h (suc n) (omega arith))

after : (p q : ℕ → Bool) (w v : ℕ) → ((k : ℕ) → 0 < k → p (w + k) ≡ q k) → size_to p (w + v) ≡ size_to p w + size_to q v
unfolding size_to
after p q w zero h = let e : w + 0 ≡ w = omega arith in rw e (omega arith)
after p q w (suc v) h =
    let e : w + suc v ≡ suc (w + v) = omega arith in
    let g : p (suc (w + v)) ≡ q (suc v) = ap p (sym e) ∙ h (suc v) (omega arith) in
    ap (size_to p) e ∙ rw (after p q w v h, g) (omega arith)

pub size-loads : (s : LoadSet) → size_of s ≡ size_to (has_load s) set_width
unfolding size_of size
size-loads s =
    let low = near (has_mark s.low) (has_load s) half_width (λ k l. has-low s k l) in
    let high =
    after (has_load s) (has_mark s.high) half_width half_width
    (λ k p. let e : half_width + k - half_width ≡ k = omega arith in sym (has-high s (half_width + k) (omega arith)) ∙ ap (has_mark s.high) e) in
    ap (λ (x : ℕ). x + size_to (has_mark s.high) half_width) low ∙ sym high

most : (p : ℕ → Bool) (n : ℕ) → size_to p n ≤ n
unfolding size_to
most p zero = zero-le
most p (suc n) = omega (arith, most p n, one (p (suc n)))
  where
    one : (b : Bool) → pick {A = ℕ} b 1 0 ≤ 1
    one true = omega arith
    one false = omega arith

pub size-most : (w x : ℕ) → size w x ≤ w
unfolding size
size-most w x = most (has_mark x) w

-- ---- a set with its loads up to n only, one load after the other
unfoldable pub first_of : LoadSet → ℕ → LoadSet
first_of s n = record { low = s.low % 2 ^ min n half_width; high = s.high % 2 ^ (n - half_width) }

abbrev halves : ℕ → ℕ → LoadSet
halves x y = record { low = x; high = y }

pub first-none : (s : LoadSet) → no_loads ≡ first_of s 0
unfolding first_of
first-none s =
    let a : s.low % 2 ^ min 0 half_width ≡ 0 = omega arith in
    let b : s.high % 2 ^ (0 - half_width) ≡ 0 = omega arith in
    λ i. halves (sym a i) (sym b i)

-- the next load is among them exactly if it was in the set
module _ (s : LoadSet) (n : ℕ) where
  pub first_more : suc n ≤ set_width → has_load s (suc n) ≡ true → joined (first_of s n) (suc n) ≡ first_of s (suc n)
  unfolding first_of joined has_load
  first_more h = go (leb (suc n) half_width) refl
    where
      go : (b : Bool) → leb (suc n) half_width ≡ b → pick b (has_mark s.low (suc n)) (has_mark s.high (suc n - half_width)) ≡ true
          → joined (first_of s n) (suc n) ≡ first_of s (suc n)
      go true e on =
          let l : suc n ≤ half_width = leb-true (suc n) half_width e in
          let a : min n half_width ≡ n = omega arith in
          let b : min (suc n) half_width ≡ suc n = omega arith in
          let c : suc n - half_width ≡ n - half_width = omega arith in
          let x : with_mark half_width (s.low % 2 ^ min n half_width) (suc n) ≡ s.low % 2 ^ min (suc n) half_width =
          rw (a, b) (mark-more half_width s.low n l on) in
          let y : with_mark half_width (s.high % 2 ^ (n - half_width)) (suc n - half_width) ≡ s.high % 2 ^ (suc n - half_width) =
          sym (with-out half_width (s.high % 2 ^ (n - half_width)) (suc n - half_width) (λ p q. omega arith)) ∙ ap (λ (k : ℕ). s.high % 2 ^ k) (sym c) in
          λ i. halves (x i) (y i)
      go false e on =
          let l : half_width < suc n = leb-false (suc n) half_width e in
          let a : min n half_width ≡ min (suc n) half_width = omega arith in
          let c : suc n - half_width ≡ suc (n - half_width) = omega arith in
          let x : with_mark half_width (s.low % 2 ^ min n half_width) (suc n) ≡ s.low % 2 ^ min (suc n) half_width =
          sym (with-out half_width (s.low % 2 ^ min n half_width) (suc n) (λ p q. omega (arith, l))) ∙ ap (λ (k : ℕ). s.low % 2 ^ k) a in
          let y : with_mark half_width (s.high % 2 ^ (n - half_width)) (suc n - half_width) ≡ s.high % 2 ^ (suc n - half_width) =
          rw c (mark-more half_width s.high (n - half_width) (omega arith) (rw c at on)) in
          λ i. halves (x i) (y i)

  pub first-less : has_load s (suc n) ≡ false → first_of s n ≡ first_of s (suc n)
  unfolding first_of has_load
  first-less = go (leb (suc n) half_width) refl
    where
      go : (b : Bool) → leb (suc n) half_width ≡ b → pick b (has_mark s.low (suc n)) (has_mark s.high (suc n - half_width)) ≡ false
          → first_of s n ≡ first_of s (suc n)
      go true e off =
          let l : suc n ≤ half_width = leb-true (suc n) half_width e in
          let a : min n half_width ≡ n = omega arith in
          let b : min (suc n) half_width ≡ suc n = omega arith in
          let c : n - half_width ≡ suc n - half_width = omega arith in
          let x : s.low % 2 ^ min n half_width ≡ s.low % 2 ^ min (suc n) half_width = rw (a, b) (sym (mark-less s.low n off)) in
          λ i. halves (x i) (s.high % 2 ^ c i)
      go false e off =
          let l : half_width < suc n = leb-false (suc n) half_width e in
          let a : min n half_width ≡ min (suc n) half_width = omega arith in
          let c : suc n - half_width ≡ suc (n - half_width) = omega arith in
          let y : s.high % 2 ^ (n - half_width) ≡ s.high % 2 ^ (suc n - half_width) =
          rw c (sym (mark-less s.high (n - half_width) (rw c at off))) in
          λ i. halves (s.low % 2 ^ a i) (y i)

  -- all of them are up to n; and where all of a set are, they are the set
  pub first-up-to : loads_up_to n (first_of s n) ≡ true
  unfolding first_of
  first-up-to =
      let a = lt-ltb (s.low % 2 ^ min n half_width) (2 ^ min n half_width) (mod-lt s.low (pow_pos (min n half_width))) in
      let b = lt-ltb (s.high % 2 ^ (n - half_width)) (2 ^ (n - half_width)) (mod-lt s.high (pow_pos (n - half_width))) in
      rw (a, b)

  pub first-all : loads_up_to n s ≡ true → first_of s n ≡ s
  unfolding first_of
  first-all h =
      let p = up_to (min n half_width) s.low in
      let q = up_to (n - half_width) s.high in
      let a = mod-eq_of_lt (ltb-true s.low (2 ^ min n half_width) (and_left p q h)) in
      let b = mod-eq_of_lt (ltb-true s.high (2 ^ (n - half_width)) (and_right p q h)) in
      λ i. halves (a i) (b i)
