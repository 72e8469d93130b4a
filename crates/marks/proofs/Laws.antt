-- Sets held in binary digits, over any width: what the code of `with`, `has` and `count` computes, and what the sets hold. Assumes nothing.
use Prim.Native.Nat.{ℕ, zero, suc, ◌+◌, ◌-◌, ◌*◌, ◌/◌, ◌%◌, ◌^◌, ◌≤◌, ◌<◌}
use mathlib.Core.Path.{◌≡◌, refl, sym, ap, ◌∙◌}
use mathlib.Core.Bool.{Bool, true, false}
use native.Mathlib.Nat.{pow-suc, mod-lt, zero-lt-suc, div-lt_iff_lt-mul, div-eq_of_lt, le_trans}
use native.Mathlib.Numerals.{one-add}
use native.Mathlib.Omega.{arith}
use Rattle.std.proofs.lemmas.Nat.{or_lt}
use borrow.Author.Tests.{leb-true, eqb-true, eqb-false, eq-eqb, le-leb, lt-leb, ltb-true, lt-ltb}
use lib.Dec.{eqb, leb}
use lib.Bits.{bit_or, or_step, or_zero_r, or_shifted_r}
use lib.Pow.{pow-lt, shr-shr, shl_exact, pow_pos, pow_mono, mod-pow-add}
use lib.Count.{ones, ones_step}
use Rattle.lists.specs.Tests.{pick}
use Rattle.lists.proofs.Bools.{same_test}
use Rattle.marks.specs.Bits.{within, bit_at, set_bit, has_mark, up_to, with_mark, size_to, size}

-- which numbers are within 1 to w
pub within-over : (w n : ℕ) → w < n → within w n ≡ false
within-over w zero h = refl
within-over w (suc k) h = lt-leb (suc k) w h

pub within-true : (w n : ℕ) → (n ≡ 0 → ⊥) → n ≤ w → within w n ≡ true
within-true w zero p h = absurd (p refl)
within-true w (suc k) p h = le-leb (suc k) w h

-- the two ways out of the code of `with`
pub with-out : (w x n : ℕ) → (1 ≤ n → n ≤ w → ⊥) → x ≡ with_mark w x n
unfolding with_mark
with-out w x zero h = refl
with-out w x (suc k) h = rw (lt-leb (suc k) w (omega arith))

-- the code's `1 << (n - 1)` is a power of two
pub with_in : (w v x n : ℕ) → w ≤ v → 1 ≤ n → n ≤ w → bit_or x ((1 * 2 ^ (n - 1)) % 2 ^ v) ≡ with_mark w x n
unfolding with_mark
with_in w v x n l p h =
    let e : (1 * 2 ^ (n - 1)) % 2 ^ v ≡ 2 ^ (n - 1) = shl_exact {a = 1} 1 (n - 1) v (omega arith) (omega arith) ∙ omega arith in
    rw (e, within-true w n (λ z. omega arith) h)

-- the set with n in it has numbers up to w only
pub with_fits : (w x n : ℕ) → x < 2 ^ w → with_mark w x n < 2 ^ w
unfolding with_mark
with_fits w x zero h = h
with_fits w x (suc k) h = go (leb (suc k) w) refl
  where
    go : (b : Bool) → leb (suc k) w ≡ b → pick b (set_bit x (suc k - 1)) x < 2 ^ w
    go true e = or_lt w x (2 ^ (suc k - 1)) h (let l = leb-true (suc k) w e in pow-lt (omega arith))
    go false e = h

-- ---- digits
half_pow : (x k : ℕ) → x / 2 ^ suc k ≡ x / 2 / 2 ^ k
half_pow x k = rw (← one-add k) (sym (shr-shr x 1 k))

bit-suc : (x k : ℕ) → bit_at x (suc k) ≡ bit_at (x / 2) k
bit-suc x k = rw half_pow

set_split : (x k : ℕ) → set_bit x (suc k) ≡ set_bit (x / 2) k * 2 + x % 2
set_split x k =
    let e : 2 ^ suc k / 2 ≡ 2 ^ k = omega (arith, pow-suc 2 k) in
    let o : 2 ^ suc k % 2 ≡ 0 = omega (arith, pow-suc 2 k) in
    or_step x (2 ^ suc k) ∙ rw (e, o) (ap (λ (y : ℕ). set_bit (x / 2) k * 2 + y) (omega arith))

set-zero : (x : ℕ) → set_bit x 0 ≡ x / 2 * 2 + 1
set-zero x = or_step x 1 ∙ rw (or_zero_r) (ap (λ (y : ℕ). x / 2 * 2 + y) (omega (arith, mod-lt x (zero-lt-suc 1))))

set-half : (x k : ℕ) → set_bit x (suc k) / 2 ≡ set_bit (x / 2) k
set-half x k = omega (arith, set_split x k)

-- a digit that was set is set, and every other digit is as before
pub bit-set-same : (x k : ℕ) → bit_at (set_bit x k) k ≡ true
bit-set-same x zero = eq-eqb (set_bit x 0 / 1 % 2) 1 (omega (arith, set-zero x))
bit-set-same x (suc k) = rw (bit-suc, set-half) (bit-set-same (x / 2) k)

pub bit-set-other : (x k j : ℕ) → (j ≡ k → ⊥) → bit_at (set_bit x k) j ≡ bit_at x j
bit-set-other x zero zero h = absurd (h refl)
bit-set-other x (suc k) zero h =
    let e : set_bit x (suc k) / 2 ^ 0 % 2 ≡ x / 2 ^ 0 % 2 = omega (arith, set_split x k) in rw e
bit-set-other x zero (suc j) h =
    let e : set_bit x 0 / 2 ≡ x / 2 = omega (arith, set-zero x) in rw (bit-suc, bit-suc x, e)
bit-set-other x (suc k) (suc j) h = rw (bit-suc, bit-suc x, set-half) (bit-set-other (x / 2) k j (λ e. h (ap suc e)))

-- a number below 2 ^ w has no digit at w or above
pub bit_high : (w x k : ℕ) → x < 2 ^ w → w ≤ k → bit_at x k ≡ false
bit_high zero x zero h l = let e : x / 2 ^ 0 % 2 ≡ 0 = omega arith in rw e
bit_high zero x (suc k) h l = let e : x / 2 ≡ 0 = omega arith in rw (bit-suc, e) (bit_high zero 0 k (omega arith) (omega arith))
bit_high (suc w) x zero h l = absurd (omega arith)
bit_high (suc w) x (suc k) h l = rw bit-suc (bit_high w (x / 2) k (omega (arith, pow-suc 2 w)) (omega arith))

-- ---- all numbers of a set are at most n: the number shifted by n is 0; and all are at most its width
pub up-to-shifted : (n x : ℕ) → eqb (x / 2 ^ n) 0 ≡ up_to n x
up-to-shifted n x =
    same_test _ _
    (λ h.
    let none : x / 2 ^ n < 1 = omega (arith, eqb-true (x / 2 ^ n) 0 h) in
    lt-ltb x (2 ^ n) (omega (arith, (div-lt_iff_lt-mul {k = 2 ^ n} {x = x} {y = 1} (pow_pos n)).0 none)))
    (λ h. eq-eqb (x / 2 ^ n) 0 (div-eq_of_lt (ltb-true x (2 ^ n) h)))

pub up-to-all : (w n x : ℕ) → x < 2 ^ w → w ≤ n → true ≡ up_to n x
up-to-all w n x h l = sym (lt-ltb x (2 ^ n) (le_trans h (pow_mono l)))

-- ---- a set, one number after the other: with its numbers up to k it is what is left below 2 ^ k
digit : (x k d : ℕ) → x / 2 ^ k % 2 ≡ d → x % 2 ^ suc k ≡ d * 2 ^ k + x % 2 ^ k
digit x k d e = rw (← one-add k) (mod-pow-add x 1 k ∙ rw e)

pub mark-more : (w x k : ℕ) → suc k ≤ w → has_mark x (suc k) ≡ true → with_mark w (x % 2 ^ k) (suc k) ≡ x % 2 ^ suc k
unfolding has_mark with_mark
mark-more w x k h e =
    let z : suc k - 1 ≡ k = omega arith in
    let o : 2 ^ k ≡ 1 * 2 ^ k = omega arith in
    rw (le-leb (suc k) w h, z, digit x k 1 (eqb-true (x / 2 ^ k % 2) 1 e))
    (ap (λ (p : ℕ). bit_or (x % 2 ^ k) p) o ∙ or_shifted_r 1 k (x % 2 ^ k) (mod-lt x (pow_pos k)))

pub mark-less : (x k : ℕ) → has_mark x (suc k) ≡ false → x % 2 ^ suc k ≡ x % 2 ^ k
unfolding has_mark
mark-less x k e =
    let n = eqb-false (x / 2 ^ k % 2) 1 e in
    digit x k 0 (zero_or (x / 2 ^ k % 2) (mod-lt (x / 2 ^ k) (zero-lt-suc 1)) n) ∙ omega arith
  where
    zero_or : (d : ℕ) → d < 2 → (d ≡ 1 → ⊥) → d ≡ 0
    zero_or zero l h = refl
    zero_or (suc zero) l h = absurd (h refl)
    zero_or (suc (suc d)) l h = absurd (omega arith)

-- ---- sets
pub has_in : (x n : ℕ) → (n ≡ 0 → ⊥) → bit_at x (n - 1) ≡ has_mark x n
unfolding has_mark
has_in x zero p = absurd (p refl)
has_in x (suc k) p = let e : suc k - 1 ≡ k = omega arith in rw e

pub has-zero : (x n : ℕ) → n ≡ 0 → false ≡ has_mark x n
unfolding has_mark
has-zero x n h = rw h

pub has-out : (w x n : ℕ) → x < 2 ^ w → (1 ≤ n → n ≤ w → ⊥) → false ≡ has_mark x n
unfolding has_mark
has-out w x zero b h = refl
has-out w x (suc k) b h = sym (bit_high w x k b (omega arith))

-- nothing is in the empty set
pub has-none : (n : ℕ) → has_mark 0 n ≡ false
has-none n = sym (has-out 0 0 n (omega arith) (λ p q. omega arith))

-- n is in the set with n
pub has-with-same : (w x n : ℕ) → within w n ≡ true → has_mark (with_mark w x n) n ≡ true
unfolding has_mark with_mark
has-with-same w x zero h = h
has-with-same w x (suc k) h = let e : suc k - 1 ≡ k = omega arith in rw (h, e) (bit-set-same x k)

-- and every other number is where it was
pub has-with-other : (w x n m : ℕ) → (m ≡ n → ⊥) → has_mark (with_mark w x n) m ≡ has_mark x m
unfolding has_mark with_mark
has-with-other w x n zero h = refl
has-with-other w x zero (suc j) h = refl
has-with-other w x (suc k) (suc j) h = go (within w (suc k)) refl
  where
    go : (b : Bool) → within w (suc k) ≡ b → bit_at (pick b (set_bit x (suc k - 1)) x) j ≡ bit_at x j
    go true e = let q : suc k - 1 ≡ k = omega arith in rw q (bit-set-other x k j (λ e. h (ap suc e)))
    go false e = refl

size_to-ext : (p q : ℕ → Bool) (n : ℕ) → ((k : ℕ) → p (suc k) ≡ q (suc k)) → size_to p n ≡ size_to q n
unfolding size_to
size_to-ext p q zero h = refl
size_to-ext p q (suc n) h = rw (size_to-ext p q n h, h n)

size_to-front : (p : ℕ → Bool) (n : ℕ) → size_to p (suc n) ≡ pick (p 1) 1 0 + size_to (λ k. p (suc k)) n
unfolding size_to
size_to-front p zero = omega arith
size_to-front p (suc n) = rw (size_to-front p n) (omega arith)

bit-digit : (x : ℕ) → pick (bit_at x 0) 1 0 ≡ x % 2
bit-digit x = go (x % 2) (mod-lt x (zero-lt-suc 1)) (omega arith)
  where
    go : (d : ℕ) → d < 2 → x / 2 ^ 0 % 2 ≡ d → pick (bit_at x 0) 1 0 ≡ d
    go zero l e = rw e
    go (suc zero) l e = rw e
    go (suc (suc d)) l e = absurd (omega arith)

-- the count of the digits that are set is the size of the set
pub ones-size : (w x : ℕ) → x < 2 ^ w → ones x ≡ size w x
unfolding size size_to has_mark ones
ones-size zero x h = let e : x ≡ 0 = omega arith in rw e
ones-size (suc w) x h =
    let r : ones (x / 2) ≡ size_to (has_mark (x / 2)) w = ones-size w (x / 2) (omega (arith, pow-suc 2 w)) in
    let shift : size_to (λ k. has_mark x (suc k)) w ≡ size_to (has_mark (x / 2)) w =
    size_to-ext (λ k. has_mark x (suc k)) (has_mark (x / 2)) w (λ k. bit-suc x k) in
    ones_step x ∙ rw (r, ← shift, ← bit-digit x) (sym (size_to-front (has_mark x) w))
