-- The sets `Marks` and `LoadSet` with one number more.
-- They stand for the lines `start,q` and `end,g` of paper 01 ("a second time changes nothing") and for its marks of loads; and for "The limit becomes
-- 128" of request Ten of paper 02, for which one word is too narrow. Assumes nothing.
use Rattle.std.specs.Prelude.{ℕ, min, ◌+◌, ◌-◌, Bool, ◌&&◌, leb}
use Rattle.lists.specs.Tests.{pick}
use Rattle.lists.specs.Argmax.{guard}
use Rattle.marks.specs.Bits.{has_mark, up_to, with_mark, size}
use Rattle.marks.specs.declared.Marks.{Marks}
use Rattle.marks.specs.declared.LoadSet.{LoadSet}

abbrev pub marked : Marks → ℕ → Marks
marked m n = record { 0 = with_mark 8 m.0 n }

-- half of a set of loads: the numbers from 1 to 64 in one word
abbrev pub half_width : ℕ
half_width = 64

-- a set of loads: the numbers from 1 to 128 in two words, those above 64 as their excess in the high one
abbrev pub set_width : ℕ
set_width = 128

abbrev pub no_loads : LoadSet
no_loads = record { low = 0; high = 0 }

unfoldable pub joined : LoadSet → ℕ → LoadSet
joined s n = record { low = with_mark half_width s.low n; high = with_mark half_width s.high (n - half_width) }

unfoldable pub has_load : LoadSet → ℕ → Bool
has_load s n = pick (leb n half_width) (has_mark s.low n) (has_mark s.high (n - half_width))

-- are all of its loads from 1 to n?
abbrev pub loads_up_to : ℕ → LoadSet → Bool
loads_up_to n s = up_to (min n half_width) s.low && up_to (n - half_width) s.high

-- how many loads are in the set
unfoldable pub size_of : LoadSet → ℕ
size_of s = size half_width s.low + size half_width s.high

-- the mark of a load in a set: 1 on, 0 off
abbrev pub mark_in : LoadSet → ℕ → ℕ
mark_in s n = guard (has_load s n) 1
