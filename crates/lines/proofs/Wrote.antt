-- Runs of writes: one after another, a loop that writes a text, and the free part lent on. Assumes nothing.
use Prim.Native.Nat.{ℕ, zero, suc, ◌+◌, ◌-◌, ◌≤◌, ◌<◌}
use mathlib.Core.Path.{◌≡◌, refl, sym, ap, ◌∙◌}
use mathlib.Core.Bool.{Bool, true, false}
use mathlib.Core.List.{List, [], ◌∷◌, ◌++◌, append-nil}
use native.Mathlib.Nat.{add-zero, add-suc, suc-add}
use native.Mathlib.Numerals.{add-one}
use native.Mathlib.Omega.{arith}
use borrow.Author.Tests.{eqb-true, eqb-false}
use lib.Dec.{eqb}
use lib.ListN.{length, set, take, drop, length-append, length-drop, drop_of_length-le}
use lib.Seq.{sets, take_all, length-sets}
use borrow.Rule.Slice.PartMut.{put_mid}
use Rattle.lines.specs.Answers.{Wrote}

sets-append : (l : List ℕ) (i : ℕ) (a b : List ℕ) → sets (sets l i a) (i + length a) b ≡ sets l i (a ++ b)
sets-append l i [] b = rw add-zero
sets-append l i (x ∷ a) b = rw (add-suc, ← suc-add) (sets-append (set l i x) (suc i) a b)

pub wrote_none : (l : List ℕ) (at : ℕ) → Wrote l l at at []
wrote_none l at = record { list = refl; end = omega arith }

-- one run after another
pub wrote_then : {l m k : List ℕ} {at i j : ℕ} {a b : List ℕ} → Wrote l m at i a → Wrote m k i j b → Wrote l k at j (a ++ b)
wrote_then {l} {m} {k} {at} {i} {j} {a} {b} p q = record {
  list = q.list ∙ rw (p.list, p.end) (sets-append l at a b);
  end = omega (arith, p.end, q.end, length-append a b);
}

pub wrote-length : {l m : List ℕ} {at i : ℕ} {bytes : List ℕ} → Wrote l m at i bytes → length m ≡ length l
wrote-length {l} {m} {at} {i} {bytes} w = ap length w.list ∙ length-sets l at bytes

-- ---- a loop that writes a text, a part p i a turn: T i is written before turn i
module _ (T p : ℕ → List ℕ) (n : ℕ) (next : (i : ℕ) → i < n → T (i + 1) ≡ T i ++ p i) where
  part-fits : (m : ℕ) → m ≤ n → (i : ℕ) → i < m → length (T i) + length (p i) ≤ length (T m)
  part-fits zero h i l = absurd (omega arith)
  part-fits (suc m) h i l = go (eqb i m) refl (part-fits m (omega arith) i)
    where
      more : length (T (suc m)) ≡ length (T m) + length (p m)
      more = rw add-one at (ap length (next m (omega arith)) ∙ length-append (T m) (p m))

      go : (b : Bool) → eqb i m ≡ b → (i < m → length (T i) + length (p i) ≤ length (T m)) → length (T i) + length (p i) ≤ length (T (suc m))
      go true e ih = rw (eqb-true i m e) (omega (arith, more))
      go false e ih = omega (arith, more, ih (omega (arith, eqb-false i m e)))

  -- there is room for the part of a turn where there is room for the whole
  pub part_room : {l m : List ℕ} {at j : ℕ} (i : ℕ) → i < n → Wrote l m at j (T i) → at + length (T n) ≤ length l → j + length (p i) ≤ length m
  part_room i h w room = omega (arith, part-fits n (omega arith) i h, w.end, wrote-length w)

  pub part-more : {l m k : List ℕ} {at j j' : ℕ} (i : ℕ) → i < n → Wrote l m at j (T i) → Wrote m k j j' (p i) → Wrote l k at j' (T (i + 1))
  part-more i h w v = rw (next i h) (wrote_then w v)

  -- after the last turn the whole is written
  pub part-all : {l m : List ℕ} {at j : ℕ} (i : ℕ) → i ≤ n → n ≤ i → Wrote l m at j (T i) → Wrote l m at j (T n)
  part-all {l} {m} {at} {j} i a b w = let e : i ≡ n = omega arith in rw e at w

-- ---- the free part of the output, lent on as `&mut out[p..]`
sets-cons : (x : ℕ) (l : List ℕ) (k : ℕ) (vs : List ℕ) → sets (x ∷ l) (suc k) vs ≡ x ∷ sets l k vs
sets-cons x l k [] = refl
sets-cons x l k (v ∷ vs) = sets-cons x (set l k v) (suc k) vs

tail-sets : (p : ℕ) (l vs : List ℕ) → p ≤ length l → take p l ++ sets (drop p l) 0 vs ≡ sets l p vs
tail-sets zero l vs h = refl
tail-sets (suc p) [] vs h = absurd (omega arith)
tail-sets (suc p) (x ∷ l) vs h = ap (λ (r : List ℕ). x ∷ r) (tail-sets p l vs (omega arith)) ∙ sym (sets-cons x l p vs)

module _ (p : ℕ) (l : List ℕ) where
  free_all : take (length l - p) (drop p l) ≡ drop p l
  free_all = take_all (length l - p) (drop p l) (omega (arith, length-drop p l))

  pub free-length : length (take (length l - p) (drop p l)) ≡ length l - p
  free-length = rw free_all (length-drop p l)

  -- what was written into the free part from its start on is written from the place on, and nothing else
  pub free_back : (m : List ℕ) {n : ℕ} {text : List ℕ} → p ≤ length l → Wrote (take (length l - p) (drop p l)) m 0 n text → put_mid p (length l - p) l m ≡ sets l p text
  free_back m {n} {text} h w =
      let past : drop (length l - p) (drop p l) ≡ [] = drop_of_length-le (drop p l) {i = length l - p} (omega (arith, length-drop p l)) in
      rw (past, append-nil, w.list, free_all) (tail-sets p l text h)
