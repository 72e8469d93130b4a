-- Every load but the root is the first child or the next sibling of a load with a lower number. Assumes nothing.
use Prim.Native.Nat.{ℕ, zero, suc, ◌+◌, ◌≤◌, ◌<◌}
use mathlib.Core.Path.{◌≡◌, refl, sym, ap, ◌∙◌}
use mathlib.Core.Bool.{Bool, true, false}
use mathlib.Core.List.{List, [], ◌∷◌}
use mathlib.Core.Logic.{◌⊎◌, inl, inr}
use native.Mathlib.Nat.{eq-or-lt_of_le}
use native.Mathlib.Omega.{arith}
use borrow.Author.Tests.{eqb-true, eqb-false}
use lib.Dec.{eqb}
use lib.ListN.{length, get_or}
use Rattle.tables.specs.declared.load.Load.{Load}
use Rattle.tables.specs.Tables.{no_load}
use Rattle.meaning.specs.Forest.{Ordered, IsTree, after}
use Rattle.meaning.proofs.Tree.{after-here, after-skip}
use Rattle.engine.specs.Pass.{Opens}

ordered_at : (ls : List Load) (k i : ℕ) → Ordered ls k → i < length ls → (0 < (get_or ls i no_load).parent) × ((get_or ls i no_load).parent < k + i)
ordered_at [] k i o h = absurd (omega arith)
ordered_at (l ∷ ls) k zero o h = (o.0, omega (arith, o.1))
ordered_at (l ∷ ls) k (suc i) o h = let r = ordered_at ls (suc k) i o.2 (omega arith) in (r.0, omega (arith, r.1))

-- a load but the first has a parent with a lower number
parent-below : (ls : List Load) → IsTree ls → (i : ℕ) → i < length ls → 0 < i → (0 < (get_or ls i no_load).parent) × ((get_or ls i no_load).parent ≤ i)
parent-below [] o i h p = absurd (omega arith)
parent-below (l ∷ ls) o zero h p = absurd (omega arith)
parent-below (l ∷ ls) o (suc i) h p = let r = ordered_at ls 2 i o (omega arith) in (r.0, omega (arith, r.1))

module _ (ls : List Load) (k p : ℕ) (low : 0 < p) where
  -- from a load after which k is the next child of p, back to one that has it as its first child or its next sibling
  back : (i : ℕ) → p ≤ i → i < k → i ≤ length ls → after ls i p ≡ k → (j : ℕ) × (0 < j) × (j < k) × Opens ls j k
  back zero h l m e = absurd (omega arith)
  back (suc i) h l m e = go (eq-or-lt_of_le h) (eqb (get_or ls i no_load).parent p) refl (back i)
    where
      go : (p ≡ suc i) ⊎ (p < suc i) → (t : Bool) → eqb (get_or ls i no_load).parent p ≡ t
          → (p ≤ i → i < k → i ≤ length ls → after ls i p ≡ k → (j : ℕ) × (0 < j) × (j < k) × Opens ls j k)
          → (j : ℕ) × (0 < j) × (j < k) × Opens ls j k
      go (inl q) t s ih = (suc i, omega arith, l, inl (ap (after ls (suc i)) (sym q) ∙ e))
      go (inr q) true s ih = (suc i, omega arith, l, inr (omega arith, ap (after ls (suc i)) (eqb-true _ _ s) ∙ e))
      go (inr q) false s ih = ih (omega arith) (omega arith) (omega arith) (after-skip ls i p (omega arith) (eqb-false _ _ s) ∙ e)

pub opener : (ls : List Load) → IsTree ls → (k : ℕ) → 1 < k → k ≤ length ls → (j : ℕ) × (0 < j) × (j < k) × Opens ls j k
opener ls o zero h l = absurd (omega arith)
opener ls o (suc i) h l =
    let p = parent-below ls o i l (omega arith) in
    back ls (suc i) (get_or ls i no_load).parent p.0 i p.1 (omega arith) (omega arith) (after-here ls i (get_or ls i no_load).parent l refl)
