-- Sums over the loads, as a loop goes through them, and the number of loads on as the size of the set. Assumes nothing.
use Prim.Native.Nat.{ℕ, zero, suc, ◌+◌, ◌-◌, ◌≤◌, ◌<◌}
use mathlib.Core.Path.{◌≡◌, refl, ap, ◌∙◌}
use mathlib.Core.Bool.{Bool, true, false}
use mathlib.Core.List.{List, [], ◌∷◌}
use native.Mathlib.Nat.{zero-add}
use native.Mathlib.Omega.{arith}
use native.Mathlib.Numerals.{add-one}
use lib.Dec.{eqb}
use lib.ListN.{length, get_or, drop, drop_of_length-le}
use lib.Seq.{drop-cons}
use Rattle.lists.specs.Tests.{pick}
use Rattle.lists.specs.Argmax.{guard}
use Rattle.marks.specs.Bits.{size_to}
use Rattle.marks.specs.declared.LoadSet.{LoadSet}
use Rattle.tables.specs.declared.load.Load.{Load}
use Rattle.tables.specs.Tables.{Tables, no_load}
use Rattle.meaning.specs.Forest.{sum}
use Rattle.meaning.specs.Sets.{number_on}
use Rattle.marks.specs.Sets.{set_width, has_load, size_of, mark_in}
use Rattle.marks.proofs.Sets.{size-loads}

-- ---- a loop that adds a figure of each load
module _ (w : ℕ → Load → ℕ) (ls : List Load) where
  -- what was added before load i + 1, and what is still to come, is the whole
  abbrev pub Added : ℕ → ℕ → Type 0
  Added acc i = acc + sum w (drop i ls) (suc i) ≡ sum w ls 1

  pub added_none : Added 0 0
  added_none = zero-add _

  pub added_more : (acc i x : ℕ) → i < length ls → Added acc i → x ≡ w (suc i) (get_or ls i no_load) → Added (acc + x) (i + 1)
  unfolding sum
  added_more acc i x h e q =
      rw add-one (omega (arith, e, ap (λ l. sum w l (suc i)) (drop-cons ls i no_load h)))

  pub added-all : (acc i : ℕ) → length ls ≤ i → Added acc i → acc ≡ sum w ls 1
  unfolding sum
  added-all acc i h e = omega (arith, e, ap (λ l. sum w l (suc i)) (drop_of_length-le ls {i = i} h))

-- ---- the number on
one-if : (b : Bool) → guard (eqb (guard b 1) 1) 1 ≡ pick b 1 0
one-if true = refl
one-if false = refl

module _ (p : ℕ → Bool) where
  size-sum : (ls : List Load) (k : ℕ) → size_to p k + sum (λ k l. guard (eqb (guard (p k) 1) 1) 1) ls (suc k) ≡ size_to p (k + length ls)
  unfolding size_to sum
  size-sum [] k = let e : k + 0 ≡ k = omega arith in omega (arith, ap (size_to p) e)
  size-sum (l ∷ ls) k =
      let e : k + suc (length ls) ≡ suc k + length ls = omega arith in
      omega (arith, one-if (p (suc k)), size-sum ls (suc k), ap (size_to p) e)

  size-past : (n m : ℕ) → ((k : ℕ) → n < k → p k ≡ false) → size_to p (n + m) ≡ size_to p n
  unfolding size_to
  size-past n zero h = let e : n + 0 ≡ n = omega arith in ap (size_to p) e
  size-past n (suc m) h =
      let e : n + suc m ≡ suc (n + m) = omega arith in
      ap (size_to p) e ∙ omega (arith, ap {B = ℕ} (λ b. pick b 1 0) (h (suc (n + m)) (omega arith)), size-past n m h)

size_none : (p : ℕ → Bool) → size_to p 0 ≡ 0
unfolding size_to
size_none p = refl

-- "n by count of ones": the size of a set with no load past the last is the number of loads on
pub size-on : (t : Tables) (s : LoadSet) → length t.loads ≤ set_width → ((k : ℕ) → length t.loads < k → has_load s k ≡ false)
    → size_of s ≡ number_on t (mark_in s)
size-on t s few past =
    let n = length t.loads in
    let p = has_load s in
    let e : set_width ≡ n + (set_width - n) = omega arith in
    let f : 0 + n ≡ n = omega arith in
    size-loads s ∙ omega (arith, ap (size_to p) e, size-past p n (set_width - n) past, ap (size_to p) f, size-sum p t.loads 0, size_none p)
