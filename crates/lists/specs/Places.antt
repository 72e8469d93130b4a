-- Arrays of which the first places are in use: tests of all places, as a loop goes through them.
-- They stand for "unused places hold 0" and "no rule is there twice" of paper 01, for any element type and size. Assumes nothing.
use Rattle.std.specs.Prelude.{ℕ, ◌+◌, Bool, ◌&&◌, ◌||◌, not, List, leb, ltb, length, get_or, drop}
use Rattle.lists.specs.Tests.{some, every, distinct, all_below}
use Rattle.lists.specs.Arrays.{rest}

-- a place in use passes one test, any other place another
abbrev pub place : (count : ℕ) (used free : ℕ → Bool) → ℕ → Bool
place k used free i = (ltb i k && used i) || (not (ltb i k) && free i)

-- all of the n places pass, and no more are in use than there are
abbrev pub places : (size count : ℕ) (used free : ℕ → Bool) → Bool
places n k used free = all_below (place k used free) n && leb k n

-- the places not in use pass the test z, and no more are in use than there are
abbrev pub rest_free : {A : Type 0} → (A → Bool) → (size count : ℕ) → List A → Bool
rest_free z n k xs = leb k n && every z (drop k xs)

-- the element at place i is fit, and none like it stands further on
abbrev pub alone : {A : Type 0} → A → (fit : A → Bool) (same : A → A → Bool) → (items : List A) (count : ℕ) → ℕ → Bool
alone d fit same xs k i = fit (get_or xs i d) && not (some (same (get_or xs i d)) (rest xs k (i + 1)))

-- at most n elements, each of them fit, none of them twice
unfoldable pub limited : {A : Type 0} → (fit : A → Bool) (same : A → A → Bool) → ℕ → List A → Bool
limited fit same n xs = leb (length xs) n && every fit xs && distinct same xs
