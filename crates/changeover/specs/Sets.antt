-- A set of loads as it is handed in, and whether the supply carries it.
-- It stands for "Given an old and a new set, each written as for `check` (else 5)" and "16, a set that is over budget or has a load on below one
-- that is off" of request Twelve of paper 02. Assumes nothing.
use Rattle.std.specs.Prelude.{ℕ, ◌≡◌, Bool, true, false, ◌&&◌, ◌||◌, not, Option, MatchOption, List, eqb, leb, length}
use Rattle.lists.specs.Tests.{every_from}
use Rattle.lists.specs.Argmax.{guard}
use Rattle.marks.specs.declared.LoadSet.{LoadSet}
use Rattle.marks.specs.Sets.{has_load}
use Rattle.lines.specs.Grammar.{is_bits, loads_of}
use Rattle.tables.specs.declared.load.Load.{Load}
use Rattle.tables.specs.Tables.{Tables}
use Rattle.meaning.specs.Sets.{power}

-- "each written as for `check`": "one 0 or 1 for each load"
abbrev pub is_set : (loads : ℕ) → List ℕ → Bool
is_set n bits = is_bits bits && eqb (length bits) n

-- which loads are on: those whose bit is 1, as for `check`
abbrev pub on_by : (bits : List ℕ) → ℕ → Bool
on_by bits = has_load (loads_of bits)

-- the marks of a set, by the loads that are on
abbrev pub mark_by : (ℕ → Bool) → ℕ → ℕ
mark_by on k = guard (on k) 1

-- no "load on below one that is off": the load is off, or is the root, which has parent 0, or its parent is on
unfoldable pub is_fed : (on : ℕ → Bool) → (number : ℕ) → Load → Bool
is_fed on k l = not (on k) || eqb l.parent 0 || on l.parent

unfoldable pub all_fed : (on : ℕ → Bool) → List Load → Bool
all_fed on ls = every_from (is_fed on) 1 ls

-- not "a set that is over budget or has a load on below one that is off"
unfoldable pub carries : Tables → (on : ℕ → Bool) → Bool
carries t on = leb (power t (mark_by on)) t.budget && all_fed on t.loads

-- ---- inside: a set as it is read, where it is written so
abbrev pub ReadAs : (loads : ℕ) (bits : List ℕ) → Option LoadSet → Type 0
ReadAs n bits found = MatchOption found (is_set n bits ≡ false) (λ s. (is_set n bits ≡ true) × (s ≡ loads_of bits))
