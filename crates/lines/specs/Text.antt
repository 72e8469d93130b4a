-- Bytes, numbers and fields in print. They stand for "Fields stand in a fixed order, parted by commas, with no quoting and no blanks"
-- and "Every line printed ends in a line feed" of paper 01. Assumes nothing.
use Rattle.std.specs.Prelude.{ℕ, zero, suc, ◌+◌, ◌/◌, ◌%◌, Bool, true, false, ◌&&◌, List, [], ◌∷◌, ◌++◌, eqb, ltb}
use Prim.Native.Char.{code}
use Prim.Native.String.{String, [] as stop, ◌∷◌ as ◌▸◌}
use Rattle.lists.specs.Tests.{pick}

-- the bytes of a text
abbrev pub bytes : String → List ℕ
bytes stop = []
bytes (c ▸ s) = code c ∷ bytes s

abbrev pub comma : ℕ
comma = 44

abbrev pub line_feed : ℕ
line_feed = 10

-- the byte of the digit 0; those of 1 to 9 follow it
abbrev pub nought : ℕ
nought = 48

-- are two lists of bytes the same?
unfoldable pub same : List ℕ → List ℕ → Bool
same [] [] = true
same [] (b ∷ bs) = false
same (a ∷ xs) [] = false
same (a ∷ xs) (b ∷ bs) = eqb a b && same xs bs

-- how many stand before the first that passes the test; all of them where none does
unfoldable pub first_at : (ℕ → Bool) → List ℕ → ℕ
first_at p [] = 0
first_at p (b ∷ bs) = pick (p b) 0 (suc (first_at p bs))

-- how many bytes stand before the first byte x; all of them where there is none
unfoldable pub before : ℕ → List ℕ → ℕ
before x s = first_at (λ b. eqb b x) s

-- a number in decimal, at most k digits of it
unfoldable pub decimal_to : ℕ → ℕ → List ℕ
decimal_to zero n = []
decimal_to (suc k) n = elim (ltb n 10) [ true ↦ (nought + n) ∷ [] | false ↦ decimal_to k (n / 10) ++ ((nought + n % 10) ∷ []) ]

-- a number in decimal: it has at most as many digits as one more than it
unfoldable pub decimal : ℕ → List ℕ
unfolding decimal_to
decimal n = decimal_to (suc n) n

-- a number and the byte after it
unfoldable pub field : ℕ → ℕ → List ℕ
field n after = decimal n ++ (after ∷ [])
