-- "A line has at most 80 bytes, its line feed not counted": refusal 2 of paper 01, judged before the form and apart from it; and "lines 144 bytes" of
-- request Ten of paper 02. Assumes nothing.
use Rattle.std.specs.Prelude.{ℕ, Bool, List, ltb, length}

abbrev pub most_bytes : ℕ
most_bytes = 144

abbrev pub too_long : List ℕ → Bool
too_long s = ltb most_bytes (length s)
