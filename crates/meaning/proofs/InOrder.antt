-- The entries in load order are one for each load, and list the same set and assignment. Assumes nothing.
use Prim.Native.Nat.{ℕ, zero, suc, ◌+◌, ◌≤◌, ◌<◌}
use mathlib.Core.Path.{◌≡◌, refl, sym, ap, fun_ext, ◌∙◌}
use mathlib.Core.Bool.{Bool, true, false, cond}
use mathlib.Core.List.{List}
use mathlib.Core.Logic.{◌⊎◌, inl, inr}
use native.Mathlib.Omega.{arith}
use borrow.Author.Tests.{eqb-true, eqb-false, ne_eqb}
use lib.Dec.{eqb}
use lib.ListN.{length}
use Rattle.lists.specs.Argmax.{guard}
use Rattle.lists.proofs.Bools.{below_or}
use Rattle.tables.specs.declared.entry.Entry.{Entry}
use Rattle.meaning.specs.Choice.{no_entry, find, in_order, assigned, assigned_by, marks_of, shown_set}
use Rattle.meaning.specs.Claims.{Numbered}
use Rattle.meaning.proofs.Entries.{Listed}

module _ (es : List Entry) where
  -- the numbers from k on are found where they stand
  abbrev Finds : ℕ → ℕ → Type 0
  Finds k n = (i : ℕ) → k ≤ i → i < k + n → (find es i).number ≡ i

  order-length : (k n : ℕ) → length (in_order es k n) ≡ n
  unfolding in_order
  order-length k zero = refl
  order-length k (suc n) = ap suc (order-length (suc k) n)

  order-numbered : (k n : ℕ) → Finds k n → Numbered k (in_order es k n)
  unfolding in_order
  order-numbered k zero h = tt
  order-numbered k (suc n) h = (h k (omega arith) (omega arith), order-numbered (suc k) n (λ i a b. h i (omega arith) (omega arith)))

  order-finds : (k n : ℕ) → Finds k n → (m : ℕ) → k ≤ m → m < k + n → find (in_order es k n) m ≡ find es m
  unfolding in_order find
  order-finds k zero h m a b = absurd (omega arith)
  order-finds k (suc n) h m a b = go (eqb (find es k).number m) refl (order-finds (suc k) n (λ i c d. h i (omega arith) (omega arith)) m)
    where
      here : (find es k).number ≡ k
      here = h k (omega arith) (omega arith)

      go : (t : Bool) → eqb (find es k).number m ≡ t → (suc k ≤ m → m < suc k + n → find (in_order es (suc k) n) m ≡ find es m)
          → cond t (find es k) (find (in_order es (suc k) n) m) ≡ find es m
      go true e ih = ap (find es) (sym here ∙ eqb-true _ _ e)
      go false e ih = let d : k ≡ m → ⊥ = λ q. eqb-false _ _ e (here ∙ q) in let l : suc k ≤ m = beyond d in ih l (omega arith)
        where
          beyond : (k ≡ m → ⊥) → suc k ≤ m
          beyond d = omega (arith, d)

  order-misses : (k n : ℕ) → Finds k n → (m : ℕ) → (m < k) ⊎ (k + n ≤ m) → find (in_order es k n) m ≡ no_entry
  unfolding in_order find
  order-misses k zero h m o = refl
  order-misses k (suc n) h m o =
      rw (ne_eqb (find es k).number m (off o)) (order-misses (suc k) n (λ i c d. h i (omega arith) (omega arith)) m (on o))
    where
      here : (find es k).number ≡ k
      here = h k (omega arith) (omega arith)

      off : (m < k) ⊎ (k + suc n ≤ m) → (find es k).number ≡ m → ⊥
      off (inl l) e = omega (arith, here)
      off (inr l) e = omega (arith, here)

      on : (m < k) ⊎ (k + suc n ≤ m) → (m < suc k) ⊎ (suc k + n ≤ m)
      on (inl l) = inl (omega arith)
      on (inr l) = inr (omega arith)

-- entries that are listed, in order
module _ (es : List Entry) (n : ℕ) (listed : Listed es n) where
  finds : Finds es 1 n
  finds i a b = listed.number i a (omega arith)

  pub listed-length : length (in_order es 1 n) ≡ n
  listed-length = order-length es 1 n

  pub listed-numbered : Numbered 1 (in_order es 1 n)
  listed-numbered = order-numbered es 1 n finds

  pub same-find : (m : ℕ) → find (in_order es 1 n) m ≡ find es m
  same-find zero = order-misses es 1 n finds 0 (inl (omega arith)) ∙ sym listed.zeroth
  same-find (suc m) = go (below_or m n)
    where
      go : (m < n) ⊎ (n ≤ m) → find (in_order es 1 n) (suc m) ≡ find es (suc m)
      go (inl l) = order-finds es 1 n finds (suc m) (omega arith) (omega arith)
      go (inr l) = order-misses es 1 n finds (suc m) (inr (omega arith)) ∙ sym (listed.past (suc m) (omega arith))

  pub same-assigned : assigned_by (in_order es 1 n) ≡ assigned_by es
  same-assigned = fun_ext (λ m. ap assigned (same-find m))

  pub same-marks : marks_of (in_order es 1 n) ≡ marks_of es
  same-marks = fun_ext (λ m. ap (λ (e : Entry). e.mark) (same-find m))

-- a mark is 0 or 1, so the loads printed with mark 1 are those with a mark
one-or-none : (x : ℕ) → x ≤ 1 → guard (eqb x 1) 1 ≡ x
one-or-none zero l = refl
one-or-none (suc zero) l = refl
one-or-none (suc (suc x)) l = absurd (omega arith)

pub shown-marks : (es : List Entry) → ((n : ℕ) → marks_of es n ≤ 1) → shown_set es ≡ marks_of es
shown-marks es h = fun_ext (λ n. one-or-none (marks_of es n) (h n))
