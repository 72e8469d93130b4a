-- The fields of a line, as a loop meets them: at a place, a byte, a comma or the end. Assumes nothing.
use Prim.Native.Nat.{ℕ, ◌+◌, ◌≤◌, ◌<◌}
use mathlib.Core.Path.{◌≡◌}
use mathlib.Core.Bool.{Bool, true, false}
use mathlib.Core.List.{List, [], ◌∷◌}
use native.Mathlib.Numerals.{add-one}
use borrow.Author.Tests.{eq-eqb, ne_eqb}
use lib.Dec.{eqb}
use lib.ListN.{length, get_or, drop, drop_of_length-le}
use lib.Seq.{drop-cons}
use Rattle.lists.specs.Tests.{pick}
use Rattle.lines.specs.Text.{comma}
use Rattle.lines.specs.Grammar.{on_first, fields}

-- there is a first field
pub data Cons : List (List ℕ) → Type 0 where
  cons : (f : List ℕ) (fs : List (List ℕ)) → Cons (f ∷ fs)

pub fields-cons : (s : List ℕ) → Cons (fields s)
unfolding fields
fields-cons [] = cons [] []
fields-cons (b ∷ bs) = go (eqb b comma) (fields bs) (fields-cons bs)
  where
    go : (t : Bool) (fs : List (List ℕ)) → Cons fs → Cons (pick t ([] ∷ fs) (on_first b fs))
    go true fs c = cons [] fs
    go false fs (cons f gs) = cons (b ∷ f) gs

module _ (s : List ℕ) (i : ℕ) where
  pub fields-end : length s ≤ i → fields (drop i s) ≡ [] ∷ []
  unfolding fields
  fields-end h = rw (drop_of_length-le s h)

  pub fields-comma : i < length s → get_or s i 0 ≡ comma → fields (drop i s) ≡ [] ∷ fields (drop (i + 1) s)
  unfolding fields
  fields-comma h e = rw (drop-cons s i 0, eq-eqb _ comma e, add-one i)

  pub fields-byte : i < length s → (get_or s i 0 ≡ comma → ⊥) → fields (drop i s) ≡ on_first (get_or s i 0) (fields (drop (i + 1) s))
  unfolding fields
  fields-byte h e = rw (drop-cons s i 0, ne_eqb _ comma e, add-one i)
