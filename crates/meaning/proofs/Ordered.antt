-- Loads that keep the limits form a tree: each later load has a parent with a smaller number. Assumes nothing.
use Prim.Native.Nat.{ℕ, suc, ◌+◌, ◌<◌}
use mathlib.Core.List.{List, [], ◌∷◌}
use native.Mathlib.Omega.{arith}
use lib.ListN.{length, get_or}
use Rattle.tables.specs.declared.load.Load.{Load}
use Rattle.tables.specs.Tables.{no_load}
use Rattle.tables.specs.Lawful.{LoadFits}
use Rattle.meaning.specs.Forest.{Ordered, IsTree}

ordered : (ls : List Load) (k : ℕ) → ((j : ℕ) → j < length ls → (0 < (get_or ls j no_load).parent) × ((get_or ls j no_load).parent < j + k)) → Ordered ls k
ordered [] k h = tt
ordered (l ∷ ls) k h =
    let p = h 0 (omega arith) in
    (p.0, omega arith, ordered ls (suc k) (λ j b. let q = h (suc j) (omega arith) in (q.0, omega arith)))

pub loads-ordered : (ls : List Load) → ((j : ℕ) → j < length ls → LoadFits (suc j) (get_or ls j no_load)) → IsTree ls
loads-ordered [] h = tt
loads-ordered (l ∷ ls) h = ordered ls 2 (λ j b. let f = h (suc j) (omega arith) in (f.later (omega arith), omega arith))
