-- The rows of a page, byte for byte.
-- They stand for "A page is 8 rows of 20 ASCII bytes" of request Six of paper 02 and the sentences after it. Assumes nothing.
use Rattle.std.specs.Prelude.{ℕ, zero, suc, ◌+◌, ◌*◌, ◌-◌, ◌/◌, ◌%◌, Bool, List, [], ◌∷◌, ◌++◌, ltb, length, get_or, replicate}
use Rattle.lists.specs.Tests.{pick}
use Rattle.lines.specs.Text.{bytes, nought}
use Rattle.tables.specs.declared.load.Load.{Load}
use Rattle.tables.specs.Tables.{no_load}
use Rattle.tables.specs.Limits.{between}

-- "8 rows of 20 ASCII bytes"
abbrev pub row_count : ℕ
row_count = 8

abbrev pub row_bytes : ℕ
row_bytes = 20

abbrev pub page_bytes : ℕ
page_bytes = row_count * row_bytes

-- "Rows two to eight show loads"
abbrev pub load_row_count : ℕ
load_row_count = row_count - 1

abbrev pub is_ascii : ℕ → Bool
is_ascii b = ltb b 128

abbrev pub blank : ℕ
blank = 32

-- "Digits are filled with zeros in front": the lowest digits of a number, so many
unfoldable pub digits : (count n : ℕ) → List ℕ
digits zero n = []
digits (suc k) n = digits k (n / 10) ++ ((nought + n % 10) ∷ [])

-- ".. rows with blanks"
unfoldable pub filled : List ℕ → List ℕ
filled s = s ++ replicate (row_bytes - length s) blank

abbrev pub blank_row : List ℕ
blank_row = filled []

abbrev pub worth_digits : ℕ
worth_digits = 6

abbrev pub power_digits : ℕ
power_digits = 3

abbrev pub number_digits : ℕ
number_digits = 3

-- "a blank, three digits of power and `W`"
unfoldable pub watts : ℕ → List ℕ
watts w = blank ∷ digits power_digits w ++ bytes "W"

-- "Row one is `worth `, five digits, a blank, three digits of power and `W`"; "the page's worth six digits" of request Ten
unfoldable pub plan_row : (worth power : ℕ) → List ℕ
plan_row v w = filled (bytes "worth " ++ digits worth_digits v ++ watts w)

-- ".. or `no plan` after refusal 9"
unfoldable pub no_plan_row : List ℕ
no_plan_row = filled (bytes "no plan")

-- "`on ` or `off`"
abbrev pub on_off : (mark : ℕ) → List ℕ
on_off zero = bytes "off"
on_off (suc m) = bytes "on "

-- "the number in three digits, a blank, `on ` or `off`, a blank, the load's own power, on or off, in three digits and `W`"
unfoldable pub load_row : (number mark power : ℕ) → List ℕ
load_row k m w = filled (digits number_digits k ++ (blank ∷ on_off m) ++ watts w)

-- the row of load k, with its mark in the set σ; "missing loads .. are blank rows"
unfoldable pub row_of : List Load → (σ : ℕ → ℕ) → (k : ℕ) → List ℕ
row_of ls σ k = pick (between 1 (length ls) k) (load_row k (σ k) (get_or ls (k - 1) no_load).power) blank_row

-- the rows of n loads from load k on
unfoldable pub load_rows : List Load → (σ : ℕ → ℕ) → (k n : ℕ) → List ℕ
load_rows ls σ k zero = []
load_rows ls σ k (suc n) = load_rows ls σ k n ++ row_of ls σ (k + n)
