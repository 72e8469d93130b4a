-- How many bytes an answer has, and that each fits the bytes that must be free. Assumes nothing.
use Prim.Native.Nat.{ℕ, ◌+◌, ◌*◌, ◌^◌, ◌≤◌, ◌<◌}
use mathlib.Core.Path.{◌≡◌, sym}
use mathlib.Core.List.{List, [], ◌∷◌, ◌++◌, append_assoc, append-nil}
use native.Mathlib.Omega.{arith}
use lib.Dec.{lit≤}
use lib.ListN.{length, length-append}
use Rattle.lists.specs.Each.{none, more}
use Rattle.tables.specs.declared.entry.Entry.{Entry}
use Rattle.lines.specs.Text.{bytes, comma, line_feed, decimal, field}
use Rattle.lines.specs.Written.{parted, line}
use Rattle.lines.specs.Answers.{yes, refused, plan_line, need_line, entry_line, entry_lines, free_bytes, run_bytes, Ranged, AllRanged}
use Rattle.lines.proofs.Decimal.{decimal-length}

pub field-length : (n after : ℕ) → length (field n after) ≡ length (decimal n) + 1
unfolding field
field-length n after = length-append (decimal n) (after ∷ [])

pub refused-length : (n : ℕ) → length (refused n) ≡ 3 + length (field n line_feed)
unfolding refused
refused-length n = simp length-append

pub need-length : (b : ℕ) → length (need_line b) ≡ 5 + length (field b line_feed)
unfolding need_line
need-length b = simp length-append

pub plan-length : (v w n : ℕ) → length (plan_line v w n) ≡ 5 + length (field v comma) + length (field w comma) + length (field n line_feed)
unfolding plan_line
plan-length v w n = simp length-append

pub entry_length : (l : Entry)
    → length (entry_line l) ≡ length (field l.number comma) + length (field l.mark comma) + length (field l.state comma) + length (field l.rule comma) + length (field l.row line_feed)
unfolding entry_line
entry_length l = simp length-append

-- ---- a plan's line and an entry's, as a word and numbers
pub plan_as_line : (v w n : ℕ) → line (bytes "plan") (v ∷ w ∷ n ∷ []) ++ (line_feed ∷ []) ≡ plan_line v w n
unfolding parted plan_line field
plan_as_line v w n = simp append_assoc

pub entry_as_line : (e : Entry) → decimal e.number ++ (line [] (e.mark ∷ e.state ∷ e.rule ∷ e.row ∷ []) ++ (line_feed ∷ [])) ≡ entry_line e
unfolding parted entry_line field
entry_as_line e = simp append_assoc

-- ---- a field of so many digits
field_fits : (k n after : ℕ) → 1 ≤ k → n < 10 ^ k → length (field n after) ≤ k + 1
field_fits k n after p h = omega (arith, field-length n after, decimal-length k n p h)

-- the line of an entry has at most 14 bytes
pub entry-fits : (l : Entry) → Ranged l → length (entry_line l) ≤ 14
entry-fits l r =
    omega (
      arith,
      entry_length l,
      field_fits 3 l.number comma (lit≤ tt) (omega (arith, r.number)),
      field_fits 1 l.mark comma (lit≤ tt) (omega (arith, r.mark)),
      field_fits 1 l.state comma (lit≤ tt) (omega (arith, r.state)),
      field_fits 2 l.rule comma (lit≤ tt) (omega (arith, r.rule)),
      field_fits 2 l.row line_feed (lit≤ tt) (omega (arith, r.row)),
    )

pub entries_fit : {ls : List Entry} → AllRanged ls → length (entry_lines ls) ≤ 14 * length ls
unfolding entry_lines
entries_fit none = omega arith
entries_fit (more {x = l} {xs = ls} r rs) = omega (arith, length-append (entry_line l) (entry_lines ls), entry-fits l r, entries_fit rs)

-- one line more, as a loop writes them
pub entries-more : (ls : List Entry) (l : Entry) → entry_lines (ls ++ (l ∷ [])) ≡ entry_lines ls ++ entry_line l
unfolding entry_lines
entries-more [] l = append-nil (entry_line l)
entries-more (m ∷ ls) l = rw (entries-more ls l) (sym (append_assoc (entry_line m) (entry_lines ls) (entry_line l)))

-- the first line of a plan has at most 23 bytes
pub plan-line-fits : (v w n : ℕ) → v < 1000000 → w < 1000000 → n < 1000 → length (plan_line v w n) ≤ 23
plan-line-fits v w n a b c =
    omega (arith, plan-length v w n, field_fits 6 v comma (lit≤ tt) (omega arith), field_fits 6 w comma (lit≤ tt) (omega arith), field_fits 3 n line_feed (lit≤ tt) (omega arith))

-- ---- every answer fits the bytes that must be free
module _ (ls : List Entry) (r : AllRanged ls) (few : 14 * length ls + 23 ≤ run_bytes) where
  pub plan-fits : (v w n : ℕ) → v < 1000000 → w < 1000000 → n < 1000 → length (plan_line v w n ++ entry_lines ls) ≤ run_bytes
  plan-fits v w n a b c = omega (arith, length-append (plan_line v w n) (entry_lines ls), plan-line-fits v w n a b c, entries_fit r)

  pub check-fits : length (yes ++ entry_lines ls) ≤ run_bytes
  check-fits = omega (arith, length-append yes (entry_lines ls), entries_fit r)

pub refused-fits : (n : ℕ) → n < 100 → length (refused n) ≤ free_bytes
refused-fits n h = omega (arith, refused-length n, field_fits 2 n line_feed (lit≤ tt) h)

pub need-fits : (b : ℕ) → b < 1000 → length (need_line b) ≤ free_bytes
need-fits b h = omega (arith, need-length b, field_fits 3 b line_feed (lit≤ tt) h)
