-- The laws of `argmax`: it bounds every value; where it is not 0 some number has it, and no lower number does; it depends only on the
-- values below n; and what a turn of a loop that keeps it does. Assumes nothing.
use Prim.Native.Nat.{ℕ, zero, suc, ◌+◌, ◌≤◌, ◌<◌, zero-le}
use mathlib.Core.Path.{◌≡◌, refl, ap, ap₂, ◌∙◌}
use mathlib.Core.Bool.{Bool, true, false, cond}
use mathlib.Core.Logic.{◌⊎◌, inl, inr}
use native.Mathlib.Nat.{le_refl, not-suc-le-zero, eq-or-lt_of_le, le_of_suc-le-suc, le_step, lt-suc_self}
use native.Mathlib.Omega.{arith}
use lib.Dec.{ltb}
use borrow.Author.Tests.{ltb-true, ltb-false, le-ltb}
use Rattle.lists.specs.Argmax.{Greatest, argmax, improve}

-- q is p after the value x at number i: either x is greater and taken, or it is not and p stays
abbrev Improved : Greatest → ℕ → ℕ → Greatest → Type 0
Improved p i x q = ((p.value < x) × (q ≡ record { value = x; index = i })) ⊎ ((x ≤ p.value) × (q ≡ p))

improved : (p : Greatest) (i x : ℕ) → Improved p i x (improve p i x)
improved p i x = go (ltb p.value x) refl
  where
    go : (t : Bool) → ltb p.value x ≡ t → Improved p i x (cond t (record { value = x; index = i }) p)
    go true e = inl (ltb-true _ _ e, refl)
    go false e = inr (ltb-false _ _ e, refl)

module _ (f : ℕ → ℕ) where
  pub argmax-bound : (n i : ℕ) → i < n → f i ≤ (argmax f n).value
  unfolding argmax
  argmax-bound zero i h = absurd (not-suc-le-zero h)
  argmax-bound (suc n) i h = go (argmax-bound n i) (eq-or-lt_of_le (le_of_suc-le-suc h)) _ (improved (argmax f n) n (f n))
    where
      go : (i < n → f i ≤ (argmax f n).value) → (i ≡ n) ⊎ (i < n) → (q : Greatest) → Improved (argmax f n) n (f n) q → f i ≤ q.value
      go ih (inl e) q (inl (l, s)) = rw (s, e) (le_refl (f n))
      go ih (inl e) q (inr (l, s)) = rw (s, e) l
      go ih (inr k) q (inl (l, s)) = rw s (omega (arith, ih k))
      go ih (inr k) q (inr (l, s)) = rw s (ih k)

  pub argmax-found : (n : ℕ) → 0 < (argmax f n).value → ((argmax f n).index < n) × (f (argmax f n).index ≡ (argmax f n).value)
  unfolding argmax
  argmax-found zero h = absurd (not-suc-le-zero h)
  argmax-found (suc n) h = go (argmax-found n) _ (improved (argmax f n) n (f n)) h
    where
      go : (0 < (argmax f n).value → ((argmax f n).index < n) × (f (argmax f n).index ≡ (argmax f n).value))
          → (q : Greatest) → Improved (argmax f n) n (f n) q → 0 < q.value → (q.index < suc n) × (f q.index ≡ q.value)
      go ih q (inl (l, s)) h = rw s (lt-suc_self n, refl)
      go ih q (inr (l, s)) h = rw s (let r = ih (rw s at h) in (le_step r.0, r.1))

  pub argmax-least : (n v : ℕ) → ((i : ℕ) → i < n → f i ≤ v) → (argmax f n).value ≤ v
  unfolding argmax
  argmax-least zero v h = zero-le
  argmax-least (suc n) v h = go (argmax-least n v (λ i l. h i (le_step l))) _ (improved (argmax f n) n (f n))
    where
      go : (argmax f n).value ≤ v → (q : Greatest) → Improved (argmax f n) n (f n) q → q.value ≤ v
      go ih q (inl (l, s)) = rw s (h n (lt-suc_self n))
      go ih q (inr (l, s)) = rw s ih

  pub argmax-first : (n j : ℕ) → j < (argmax f n).index → f j < (argmax f n).value
  unfolding argmax
  argmax-first zero j h = absurd (not-suc-le-zero h)
  argmax-first (suc n) j h = go (argmax-first n j) _ (improved (argmax f n) n (f n)) h
    where
      go : (j < (argmax f n).index → f j < (argmax f n).value) → (q : Greatest) → Improved (argmax f n) n (f n) q → j < q.index → f j < q.value
      go ih q (inl (l, s)) h = rw s (omega (arith, argmax-bound n j (rw s at h)))
      go ih q (inr (l, s)) h = rw s (ih (rw s at h))

-- the number is one of those looked at, or 0
pub argmax-within : (f : ℕ → ℕ) (n m : ℕ) → n ≤ m → 0 < m → (argmax f n).index < m
unfolding argmax
argmax-within f zero m h k = k
argmax-within f (suc n) m h k = go (ltb (argmax f n).value (f n)) (argmax-within f n m (omega arith) k)
  where
    go : (t : Bool) → (argmax f n).index < m → (cond t (record { value = f n; index = n }) (argmax f n)).index < m
    go true ih = h
    go false ih = ih

-- values of 0 change nothing
improve-none : (p : Greatest) (i x : ℕ) → x ≡ 0 → improve p i x ≡ p
improve-none p i x e = rw (e, le-ltb p.value 0 zero-le)

pub argmax-still : (f : ℕ → ℕ) (n m : ℕ) → ((i : ℕ) → n ≤ i → i < n + m → f i ≡ 0) → argmax f (n + m) ≡ argmax f n
unfolding argmax
argmax-still f n zero h = let e : n + 0 ≡ n = omega arith in ap (argmax f) e
argmax-still f n (suc m) h =
    let e : n + suc m ≡ suc (n + m) = omega arith in
    ap (argmax f) e ∙ improve-none (argmax f (n + m)) (n + m) (f (n + m)) (h (n + m) (omega arith) (omega arith)) ∙ argmax-still f n m (λ i l k. h i l (omega arith))

pub argmax-agree : (f g : ℕ → ℕ) (n : ℕ) → ((i : ℕ) → i < n → f i ≡ g i) → argmax f n ≡ argmax g n
unfolding argmax
argmax-agree f g zero h = refl
argmax-agree f g (suc n) h = ap₂ (λ p x. improve p n x) (argmax-agree f g n (λ i l. h i (le_step l))) (h n (lt-suc_self n))
