-- The stretch of a drawn page that the glass does not show yet.
-- It stands for "A second call is given the page on the glass and the page just drawn, and hands back the stretch of the drawn page from the
-- first differing row to the last, empty if none differs" and "if either page isn't 160 bytes its stretch is empty" of request Six of paper 02.
-- Assumes nothing.
use Rattle.std.specs.Prelude.{ℕ, zero, suc, ◌*◌, ◌-◌, Bool, ◌&&◌, not, List, eqb, length, take, drop}
use Rattle.lists.specs.Tests.{pick}
use Rattle.lines.specs.Text.{same}
use Rattle.page.specs.declared.stretch.Rows.{Rows}
use Rattle.page.specs.declared.stretch.Part.{Part}
use Rattle.page.specs.Rows.{row_count, row_bytes, page_bytes}

-- row i of a page, the topmost being row 0
unfoldable pub row_at : List ℕ → (i : ℕ) → List ℕ
row_at page i = take row_bytes (drop (i * row_bytes) page)

abbrev pub differs : (glass drawn : List ℕ) → (i : ℕ) → Bool
differs g d i = not (same (row_at g i) (row_at d i))

-- the first of n rows that passes a test, or n
unfoldable pub first_of : (ℕ → Bool) → (n : ℕ) → ℕ
first_of p zero = 0
first_of p (suc n) = pick (p 0) 0 (suc (first_of (λ i. p (suc i)) n))

-- the row after the last of n rows that passes it, or 0
unfoldable pub end_of : (ℕ → Bool) → (n : ℕ) → ℕ
end_of p zero = 0
end_of p (suc n) = pick (p n) (suc n) (end_of p n)

-- "from the first differing row to the last": the first, and the one after the last; 0 and 0 where there is none
abbrev pub passing : (ℕ → Bool) → (n : ℕ) → Rows
passing p n = record { first = pick (eqb (end_of p n) 0) 0 (first_of p n); end = end_of p n }

abbrev pub no_rows : Rows
no_rows = record { first = 0; end = 0 }

abbrev pub is_page : List ℕ → Bool
is_page s = eqb (length s) page_bytes

unfoldable pub differing : (glass drawn : List ℕ) → Rows
differing g d = pick (is_page g && is_page d) (passing (differs g d) row_count) no_rows

-- where it lies in the drawn page: whole rows
unfoldable pub place : (glass drawn : List ℕ) → Part
place g d = let r = differing g d in record { start = r.first * row_bytes; count = (r.end - r.first) * row_bytes }

-- "hands back the stretch of the drawn page"
unfoldable pub stretch : (glass drawn : List ℕ) → List ℕ
stretch g d = take (place g d).count (drop (place g d).start d)

-- the row at which it begins, "row one" being 1; 0 where it is empty
unfoldable pub beginning : (glass drawn : List ℕ) → ℕ
beginning g d = let r = differing g d in pick (eqb r.end 0) 0 (suc r.first)
