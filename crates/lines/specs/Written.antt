-- Lines as they are written: a word and numbers, these unpadded; the line of a change; and that of a check. Assumes nothing.
use Rattle.std.specs.Prelude.{ℕ, zero, suc, ◌+◌, ◌<◌, ◌^◌, List, [], ◌∷◌, ◌++◌, map}
use Rattle.lists.specs.Tests.{pick}
use Rattle.lists.specs.Each.{Each}
use Rattle.marks.specs.declared.LoadSet.{LoadSet}
use Rattle.marks.specs.Sets.{has_load}
use Rattle.lines.specs.declared.SaveForm.{SaveForm}
use Rattle.lines.specs.declared.Change.{Change}
use Rattle.lines.specs.Text.{bytes, comma, line_feed, nought, decimal}
use Rattle.lines.specs.Grammar.{most_digits, line_of}

-- a word and fields, parted by commas
unfoldable pub parted : List ℕ → List (List ℕ) → List ℕ
parted w [] = w
parted w (f ∷ fs) = w ++ (comma ∷ parted f fs)

-- a word and numbers
abbrev pub line : (word values : List ℕ) → List ℕ
line w ns = parted w (map decimal ns)

-- numbers of few enough digits
abbrev pub Short : List ℕ → Type 0
Short ns = Each (λ n. n < 10 ^ most_digits) ns

-- the line of a change, in a form
abbrev pub written : SaveForm → Change → List ℕ
written f c = line (line_of f c).word (line_of f c).values

-- and with its line feed, as it stands in a text
abbrev pub change_line : SaveForm → Change → List ℕ
change_line f c = written f c ++ (line_feed ∷ [])

-- one 0 or 1 for each of n loads from number k on
unfoldable pub bits_in : LoadSet → (k n : ℕ) → List ℕ
bits_in s k zero = []
bits_in s k (suc n) = (nought + pick (has_load s k) 1 0) ∷ bits_in s (suc k) n

-- the line of a check of n bits
abbrev pub written_check : LoadSet → (n : ℕ) → List ℕ
written_check s n = parted (bytes "check") (bits_in s 1 n ∷ [])
