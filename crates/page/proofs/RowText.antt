-- The rows of a page: their lengths, and what is written of them piece by piece. Assumes nothing.
use Prim.Native.Nat.{ℕ, zero, suc, ◌+◌, ◌*◌, ◌-◌, ◌≤◌, ◌<◌}
use mathlib.Core.Path.{◌≡◌, refl, sym, ap, ◌∙◌}
use mathlib.Core.Bool.{Bool, true, false}
use mathlib.Core.List.{List, [], ◌∷◌, ◌++◌}
use native.Mathlib.Numerals.{add-one}
use native.Mathlib.Omega.{arith}
use borrow.Author.Tests.{le-leb, lt-leb}
use lib.Dec.{leb}
use borrow.Rule.Slice.PartMut.{put_mid}
use lib.ListN.{length, get_or, take, drop, replicate, length-take, length-drop, length-append, length-replicate, replicate-append-replicate}
use lib.Seq.{sets}
use Rattle.lists.specs.Tests.{pick}
use Rattle.lists.proofs.Bools.{and-false}
use Rattle.lines.specs.Text.{bytes}
use Rattle.lines.specs.declared.writing.Writer.{Writer}
use Rattle.lines.specs.Writing.{HasRoom, Writes}
use Rattle.lines.proofs.Wrote.{wrote-length}
use Rattle.lines.proofs.Writes.{copied, writes_then, room_first}
use Rattle.tables.specs.declared.load.Load.{Load}
use Rattle.tables.specs.Tables.{no_load}
use Rattle.tables.specs.Limits.{between}
use Rattle.page.specs.Rows.{row_bytes, blank, digits, filled, blank_row, power_digits, worth_digits, number_digits, watts, plan_row, no_plan_row, on_off, load_row, row_of, load_rows}
use Rattle.page.proofs.Digits.{digits-length}

-- ---- lengths
pub watts-length : (w : ℕ) → length (watts w) ≡ 5
unfolding watts
watts-length w = omega (arith, length-append (digits power_digits w) (bytes "W"), digits-length power_digits w)

pub mark-length : (m : ℕ) → length (on_off m) ≡ 3
mark-length zero = refl
mark-length (suc m) = refl

filled-length : (s : List ℕ) → length s ≤ row_bytes → length (filled s) ≡ row_bytes
unfolding filled
filled-length s h = omega (arith, length-append s (replicate (row_bytes - length s) blank), length-replicate {A = ℕ} (row_bytes - length s) blank)

pub worth-bytes : (v : ℕ) → length (bytes "worth " ++ digits worth_digits v) ≡ 12
worth-bytes v = omega (arith, length-append (bytes "worth ") (digits worth_digits v), digits-length worth_digits v)

pub mark-bytes : (k m : ℕ) → length (digits number_digits k ++ (blank ∷ on_off m)) ≡ 7
mark-bytes k m = omega (arith, length-append (digits number_digits k) (blank ∷ on_off m), digits-length number_digits k, mark-length m)

pub plan-bytes : (v w : ℕ) → length (bytes "worth " ++ digits worth_digits v ++ watts w) ≡ 17
plan-bytes v w =
    omega (arith, length-append (bytes "worth " ++ digits worth_digits v) (watts w), worth-bytes v, watts-length w)

pub load-bytes : (k m w : ℕ) → length (digits number_digits k ++ (blank ∷ on_off m) ++ watts w) ≡ 12
load-bytes k m w =
    omega (arith, length-append (digits number_digits k ++ (blank ∷ on_off m)) (watts w), mark-bytes k m, watts-length w)

pub plan-length : (v w : ℕ) → length (plan_row v w) ≡ row_bytes
unfolding plan_row
plan-length v w = filled-length (bytes "worth " ++ digits worth_digits v ++ watts w) (omega (arith, plan-bytes v w))

pub no-plan-length : length no_plan_row ≡ row_bytes
unfolding no_plan_row
no-plan-length = filled-length (bytes "no plan") (omega arith)

blank-length : length blank_row ≡ row_bytes
blank-length = filled-length [] (omega arith)

load-length : (k m w : ℕ) → length (load_row k m w) ≡ row_bytes
unfolding load_row
load-length k m w = filled-length (digits number_digits k ++ (blank ∷ on_off m) ++ watts w) (omega (arith, load-bytes k m w))

-- ---- the row of a load, or a blank one
pub row-there : (ls : List Load) (σ : ℕ → ℕ) (k : ℕ) → 1 ≤ k → k ≤ length ls → row_of ls σ k ≡ load_row k (σ k) (get_or ls (k - 1) no_load).power
unfolding row_of
row-there ls σ k l h = rw (le-leb 1 k l, le-leb k (length ls) h)

pub row-missing : (ls : List Load) (σ : ℕ → ℕ) (k : ℕ) → length ls < k → row_of ls σ k ≡ blank_row
unfolding row_of
row-missing ls σ k h = rw (lt-leb k (length ls) h, and-false (leb 1 k))

pub row-length : (ls : List Load) (σ : ℕ → ℕ) (k : ℕ) → length (row_of ls σ k) ≡ row_bytes
unfolding row_of
row-length ls σ k = go (between 1 (length ls) k)
  where
    go : (b : Bool) → length (pick b (load_row k (σ k) (get_or ls (k - 1) no_load).power) blank_row) ≡ row_bytes
    go true = load-length k (σ k) (get_or ls (k - 1) no_load).power
    go false = blank-length

module _ (ls : List Load) (σ : ℕ → ℕ) (k : ℕ) where
  pub rows_none : load_rows ls σ k 0 ≡ []
  unfolding load_rows
  rows_none = refl

  pub rows_more : (n : ℕ) → load_rows ls σ k (n + 1) ≡ load_rows ls σ k n ++ row_of ls σ (k + n)
  unfolding load_rows
  rows_more n = rw (add-one n)

  pub rows-length : (n : ℕ) → length (load_rows ls σ k n) ≡ n * row_bytes
  unfolding load_rows
  rows-length zero = refl
  rows-length (suc n) = omega (arith, length-append (load_rows ls σ k n) (row_of ls σ (k + n)), rows-length n, row-length ls σ (k + n))

-- after refusal 9 all of them are blank
pub rows-blank : (σ : ℕ → ℕ) (k n : ℕ) → 1 ≤ k → load_rows [] σ k n ≡ replicate (n * row_bytes) blank
unfolding load_rows filled
rows-blank σ k zero h = refl
rows-blank σ k (suc n) h =
    let e : n * row_bytes + row_bytes ≡ suc n * row_bytes = omega arith in
    ap (λ (s : List ℕ). s ++ row_of [] σ (k + n)) (rows-blank σ k n h) ∙ ap (λ (s : List ℕ). replicate (n * row_bytes) blank ++ s) (row-missing [] σ (k + n) (omega arith))
    ∙ replicate-append-replicate (n * row_bytes) row_bytes blank ∙ ap (λ (m : ℕ). replicate m blank) e

-- ---- written piece by piece
pub filled-with : (l new : List ℕ) (at end : ℕ) → at ≤ end → end ≤ length l → new ≡ replicate (length (take (end - at) (drop at l))) blank
    → put_mid at (end - at) l new ≡ sets l at (replicate (end - at) blank)
filled-with l new at end h k q =
    let n : length (take (end - at) (drop at l)) ≡ end - at = omega (arith, length-take (end - at) (drop at l), length-drop at l) in
    let e : at + length (replicate (end - at) blank) - at ≡ end - at = omega (arith, length-replicate {A = ℕ} (end - at) blank) in
    rw (q, n) (rw e at (copied l (replicate (end - at) blank) at (omega (arith, length-replicate {A = ℕ} (end - at) blank))))

-- a row's text, and the blanks up to its end
pub text-room : {u : Writer} {s : List ℕ} → HasRoom u (filled s) → HasRoom u s
unfolding filled
text-room h = room_first _ h

pub blanks-room : {u v : Writer} {s : List ℕ} → length s ≤ row_bytes → HasRoom u (filled s) → Writes u v s → (v.at ≤ u.at + row_bytes) × (u.at + row_bytes ≤ length v.out.now)
blanks-room {u} {v} {s} h r p = (omega (arith, p.wrote.end), omega (arith, r.fits, filled-length s h, wrote-length p.wrote))

pub writes-filled : {u v w : Writer} {s : List ℕ} → length s ≤ row_bytes → Writes u v s → Writes v w (replicate (u.at + row_bytes - v.at) blank) → Writes u w (filled s)
unfolding filled
writes-filled {u} {v} {w} {s} h p q =
    let e : u.at + row_bytes - v.at ≡ row_bytes - length s = omega (arith, p.wrote.end) in
    writes_then p (rw e at q)
