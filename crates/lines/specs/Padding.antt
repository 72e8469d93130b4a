-- Lines that must get the same treatment: they differ only in leading zeros of their numbers (request One of paper 02), or in a kind 0 that the one
-- writes out and the other leaves out (request Eight). Assumes nothing.
use Rattle.std.specs.Prelude.{ℕ, ◌≤◌, ◌≡◌, true, List, [], ◌∷◌, ◌++◌, ◌⊎◌, eqb, length, get_or, drop}
use Rattle.lists.specs.Tests.{pick}
use Rattle.lists.specs.Pairs.{Pairwise}
use Rattle.lines.specs.Text.{bytes, nought}
use Rattle.lines.specs.Length.{most_bytes}
use Rattle.lines.specs.Grammar.{fields, most_digits, is_number, value}

-- "A number field may now carry leading zeros": a field with these taken off. A zero leads where another byte follows it, so that 0 itself stays.
unfoldable pub unpadded : List ℕ → List ℕ
unpadded [] = []
unpadded (b ∷ []) = b ∷ []
unpadded (b ∷ c ∷ bs) = pick (eqb b nought) (unpadded (c ∷ bs)) (b ∷ c ∷ bs)

-- ".. still within five digits": two fields that differ in no byte, or only in such zeros
pub data SameField (f g : List ℕ) : Type 0 where
  equal : f ≡ g → SameField f g
  padded : length f ≤ most_digits → length g ≤ most_digits → unpadded f ≡ unpadded g → SameField f g

-- the word that a line begins with, and the fields after it
abbrev pub first_word : List ℕ → List ℕ
first_word s = get_or (fields s) 0 []

abbrev pub later_fields : List ℕ → List (List ℕ)
later_fields s = drop 1 (fields s)

-- "Lines .. that differ only in such zeros": the same word, and field by field the same but for them
pub record OnlyZeros (s t : List ℕ) : Type 0 where
  pub word : first_word s ≡ first_word t
  -- "the field of `check` is no number and keeps its form"
  pub numbers : first_word s ≡ bytes "check" → ⊥
  pub each : Pairwise SameField (later_fields s) (later_fields t)

-- "A load and a load rule each gain a kind .. as last field of their lines"; "Lines without it mean kind 0.": t is the line s with a kind 0 written out
pub record KindWritten (s t : List ℕ) : Type 0 where
  pub word : first_word s ≡ first_word t
  pub kinded : (first_word s ≡ bytes "rule") ⊎ (first_word s ≡ bytes "load")
  pub three : length (later_fields s) ≡ 3
  pub kind : List ℕ
  pub number : is_number kind ≡ true
  pub nought : value kind ≡ 0
  pub last : later_fields t ≡ later_fields s ++ (kind ∷ [])

-- "Lines within the length limit that differ only in such zeros", or in such a kind, or in nothing at all
pub data SameLine (s t : List ℕ) : Type 0 where
  identical : s ≡ t → SameLine s t
  zeros : length s ≤ most_bytes → length t ≤ most_bytes → OnlyZeros s t → SameLine s t
  kind_written : length s ≤ most_bytes → length t ≤ most_bytes → KindWritten s t → SameLine s t
  kind_left_out : length s ≤ most_bytes → length t ≤ most_bytes → KindWritten t s → SameLine s t
