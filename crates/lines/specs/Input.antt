-- Input cut into lines: "A last line without line feed counts as a line; empty input prints nothing; an empty line is refusal 3" of paper 01.
-- Of a line only so many bytes are kept as show that it is too long. Input comes in chunks, cut anywhere. Assumes nothing.
use Rattle.std.specs.Prelude.{ℕ, suc, ◌+◌, ◌-◌, ◌≡◌, Bool, true, false, List, [], ◌∷◌, ◌++◌, eqb, ltb, length, take}
use Rattle.std.proofs.lemmas.List.Edits.{sets}
use Rattle.lists.specs.Tests.{pick}
use Rattle.lines.specs.declared.splitting.Taken.{Taken}
use Rattle.lines.specs.Text.{line_feed, before}
use Rattle.lines.specs.Length.{most_bytes}

-- ---- the lines of an input
-- one byte more at the front of the first line
abbrev pub on_line : ℕ → List (List ℕ) → List (List ℕ)
on_line b [] = (b ∷ []) ∷ []
on_line b (l ∷ ls) = (b ∷ l) ∷ ls

unfoldable pub lines : List ℕ → List (List ℕ)
lines [] = []
lines (b ∷ bs) = pick (eqb b line_feed) ([] ∷ lines bs) (on_line b (lines bs))

-- ---- what is kept of a line
abbrev pub most_kept : ℕ
most_kept = suc most_bytes

abbrev pub kept : List ℕ → List ℕ
kept l = take most_kept l

-- ---- a chunk of input after a line begun: the lines that end in it, and the line that it leaves begun
pub record Fed : Type 0 where
  pub ended : List (List ℕ)
  pub begun : List ℕ

abbrev pub ahead : List ℕ → Fed → Fed
ahead l x = record { ended = l ∷ x.ended; begun = x.begun }

unfoldable pub feed : (begun chunk : List ℕ) → Fed
feed l [] = record { ended = []; begun = l }
feed l (b ∷ bs) = elim (eqb b line_feed) [ true ↦ ahead l (feed [] bs) | false ↦ feed (kept (l ++ (b ∷ []))) bs ]

-- chunk after chunk, to the end of the input: a line begun counts if it has a byte
unfoldable pub feed_all : (begun : List ℕ) (chunks : List (List ℕ)) → List (List ℕ)
feed_all [] [] = []
feed_all (b ∷ l) [] = (b ∷ l) ∷ []
feed_all l (c ∷ cs) = (feed l c).ended ++ feed_all (feed l c).begun cs

-- ---- one line of a chunk, as `take_line` takes it
-- the bytes that go to a line of which so many are held already: up to the first line feed, as far as there is room
unfoldable pub bytes_for : (had : ℕ) → List ℕ → List ℕ
bytes_for n s = take (most_kept - n) (take (before line_feed s) s)

-- is there a line feed?
unfoldable pub has_end : List ℕ → Bool
has_end s = ltb (before line_feed s) (length s)

abbrev pub taken_from : (had : ℕ) → List ℕ → Taken
taken_from n s = record { count = before line_feed s + pick (has_end s) 1 0; held = n + length (bytes_for n s); ended = has_end s }

-- what a call of `take_line` gives: the line's buffer has the new bytes after those held, and all its other bytes keep their values
pub record Took (chunk before after : List ℕ) (had : ℕ) (r : Taken) : Type 0 where
  pub taken : r ≡ taken_from had chunk
  pub line : after ≡ sets before had (bytes_for had chunk)
