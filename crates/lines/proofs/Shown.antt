-- The loads of an answer are read back from its bytes. Assumes nothing.
use Prim.Native.Nat.{ℕ, ◌<◌}
use mathlib.Core.Path.{◌≡◌, refl, ap₂}
use mathlib.Core.List.{List, [], ◌∷◌, ◌++◌, map, append_assoc}
use native.Mathlib.Omega.{arith}
use Rattle.tables.specs.declared.entry.Entry.{Entry}
use Rattle.lines.specs.Text.{bytes, comma, line_feed, nought, decimal, field}
use Rattle.lines.specs.Grammar.{fields}
use Rattle.lines.specs.Answers.{yes, plan_line, entry_line, entry_lines}
use Rattle.lines.specs.Input.{lines}
use Rattle.lines.specs.Shown.{entry_in, entries_in, on_in, shown}
use Rattle.lines.proofs.Decimal.{decimal-digits, decimal-value}
use Rattle.lines.proofs.Without.{Without, none, byte, without-append, without-digits, fields-first, fields-last, lines-first}

-- ---- a number and what follows it
plain : (x n : ℕ) → x < nought → Without x (decimal n)
plain x n l = without-digits x l (decimal n) (decimal-digits n)

-- a number, a comma and more
then : ℕ → List ℕ → List ℕ
then n s = decimal n ++ (comma ∷ s)

then-fields : (n : ℕ) (s : List ℕ) → fields (then n s) ≡ decimal n ∷ fields s
unfolding then
then-fields n s = fields-first s (plain comma n (omega arith))

then-plain : (n : ℕ) {s : List ℕ} → Without line_feed s → Without line_feed (then n s)
unfolding then
then-plain n p = without-append (plain line_feed n (omega arith)) (byte refl p)

-- ---- a load line without its line feed
body : Entry → List ℕ
body l = then l.number (then l.mark (then l.state (then l.rule (decimal l.row))))

body-plain : (l : Entry) → Without line_feed (body l)
unfolding body
body-plain l = then-plain l.number (then-plain l.mark (then-plain l.state (then-plain l.rule (plain line_feed l.row (omega arith)))))

body-fields : (l : Entry) → fields (body l) ≡ decimal l.number ∷ decimal l.mark ∷ decimal l.state ∷ decimal l.rule ∷ decimal l.row ∷ []
unfolding body
body-fields l =
    rw (then-fields l.number _, then-fields l.mark _, then-fields l.state _, then-fields l.rule (decimal l.row), fields-last (plain comma l.row (omega arith)))

body-read : (l : Entry) → entry_in (body l) ≡ l
unfolding entry_in
body-read l = rw (body-fields l, decimal-value l.number, decimal-value l.mark, decimal-value l.state, decimal-value l.rule, decimal-value l.row)

body-line : (l : Entry) (s : List ℕ) → entry_line l ++ s ≡ body l ++ (line_feed ∷ s)
unfolding entry_line body field then
body-line l s = simp append_assoc

-- ---- the lines of loads
lines-loads : (ls : List Entry) → lines (entry_lines ls) ≡ map body ls
unfolding entry_lines lines
lines-loads [] = refl
lines-loads (l ∷ ls) = rw (body-line l (entry_lines ls), lines-first (entry_lines ls) (body-plain l), lines-loads ls)

map_read : (ls : List Entry) → map entry_in (map body ls) ≡ ls
map_read [] = refl
map_read (l ∷ ls) = ap₂ ◌∷◌ (body-read l) (map_read ls)

-- after a first line they are read back
loads-after : {first : List ℕ} (ls : List Entry) → Without line_feed first → entries_in (first ++ (line_feed ∷ entry_lines ls)) ≡ ls
unfolding entries_in
loads-after ls p = rw (lines-first (entry_lines ls) p, lines-loads ls) (map_read ls)

pub check-read : (ls : List Entry) → entries_in (yes ++ entry_lines ls) ≡ ls
check-read ls = loads-after ls (byte {b = 121} refl (byte {b = 101} refl (byte {b = 115} refl none)))

plan-body : (v w n : ℕ) → List ℕ
plan-body v w n = bytes "plan," ++ then v (then w (decimal n))

plan-plain : (v w n : ℕ) → Without line_feed (plan-body v w n)
unfolding plan-body
plan-plain v w n =
    byte refl (byte refl (byte refl (byte refl (byte refl (then-plain v (then-plain w (plain line_feed n (omega arith))))))))

plan-line : (v w n : ℕ) (s : List ℕ) → plan_line v w n ++ s ≡ plan-body v w n ++ (line_feed ∷ s)
unfolding plan_line plan-body field then
plan-line v w n s = simp append_assoc

pub plan-read : (v w n : ℕ) (ls : List Entry) → entries_in (plan_line v w n ++ entry_lines ls) ≡ ls
plan-read v w n ls = rw (plan-line v w n (entry_lines ls)) (loads-after ls (plan-plain v w n))

-- so the set shown is that of the lines written
pub plan-shown : (v w n : ℕ) (ls : List Entry) (k : ℕ) → shown (plan_line v w n ++ entry_lines ls) k ≡ on_in ls k
plan-shown v w n ls k = rw (plan-read v w n ls)

pub check-shown : (ls : List Entry) (k : ℕ) → shown (yes ++ entry_lines ls) k ≡ on_in ls k
check-shown ls k = rw (check-read ls)
