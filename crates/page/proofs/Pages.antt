-- What is read off a drawn page, and that its bytes are ASCII. Assumes nothing.
use Prim.Native.Nat.{ℕ, zero, suc, ◌+◌, ◌*◌, ◌-◌, ◌≤◌, ◌<◌}
use mathlib.Core.Path.{◌≡◌, refl, sym, ap, ◌∙◌}
use mathlib.Core.Bool.{Bool, true, false}
use mathlib.Core.List.{List, [], ◌∷◌, ◌++◌, append_assoc}
use mathlib.Core.Logic.{◌⊎◌, inl, inr}
use native.Mathlib.Omega.{arith}
use borrow.Author.Tests.{lt-ltb}
use lib.ListN.{length, get_or, take, drop, replicate, length-append, length-drop}
use lib.Seq.{append_snoc, take_at, drop_at, drop-append-le, take-append-le, drop-append-add, take_all}
use Rattle.lists.specs.Tests.{pick, every}
use Rattle.lists.proofs.Tests.{every_append}
use Rattle.lists.proofs.Bools.{and-true, and_left, and_right, below_or}
use Rattle.lines.specs.Text.{bytes}
use Rattle.lines.specs.Grammar.{is_digit}
use Rattle.lines.proofs.Decimal.{digit-range}
use Rattle.tables.specs.declared.load.Load.{Load}
use Rattle.tables.specs.Tables.{no_load}
use Rattle.tables.specs.Limits.{between}
use Rattle.page.specs.Rows.{row_bytes, is_ascii, blank, digits, filled, blank_row, worth_digits, power_digits, number_digits, watts, plan_row, no_plan_row, on_off, load_row, row_of, load_rows}
use Rattle.page.specs.Stretch.{row_at}
use Rattle.page.proofs.Digits.{digits-length, digits-digits}
use Rattle.page.proofs.RowText.{mark-length, worth-bytes, mark-bytes, row-length, rows-length}

-- ---- a row of a page
-- the first, where so many bytes stand before the rest
pub row_first : (s rest : List ℕ) → length s ≡ row_bytes → row_at (s ++ rest) 0 ≡ s
unfolding row_at
row_first s rest e = take_at s rest row_bytes e

-- one behind it
pub row_next : (s rest : List ℕ) (i : ℕ) → length s ≡ row_bytes → row_at (s ++ rest) (suc i) ≡ row_at rest i
unfolding row_at
row_next s rest i e =
    let n : suc i * row_bytes ≡ length s + i * row_bytes = omega (arith, e) in
    rw (n, drop-append-add s rest (i * row_bytes))

-- one inside the first part of a text, and the one behind it
pub row_inside : (s rest : List ℕ) (i : ℕ) → i * row_bytes + row_bytes ≤ length s → row_at (s ++ rest) i ≡ row_at s i
unfolding row_at
row_inside s rest i h =
    rw (drop-append-le (i * row_bytes) s rest (omega arith)) (take-append-le row_bytes (drop (i * row_bytes) s) rest (omega (arith, length-drop (i * row_bytes) s)))

row_last : (s r : List ℕ) (i : ℕ) → length s ≡ i * row_bytes → length r ≡ row_bytes → row_at (s ++ r) i ≡ r
unfolding row_at
row_last s r i e l = rw (drop_at s r (i * row_bytes) e) (take_all row_bytes r (omega (arith, l)))

-- one of the rows of the loads
pub row-of-loads : (ls : List Load) (σ : ℕ → ℕ) (k n i : ℕ) → i < n → row_at (load_rows ls σ k n) i ≡ row_of ls σ (k + i)
unfolding load_rows
row-of-loads ls σ k zero i h = absurd (omega arith)
row-of-loads ls σ k (suc n) i h = go (below_or i n) (row-of-loads ls σ k n i)
  where
    go : (i < n) ⊎ (n ≤ i) → (i < n → row_at (load_rows ls σ k n) i ≡ row_of ls σ (k + i)) → row_at (load_rows ls σ k n ++ row_of ls σ (k + n)) i ≡ row_of ls σ (k + i)
    go (inl l) ih = row_inside (load_rows ls σ k n) (row_of ls σ (k + n)) i (omega (arith, l, rows-length ls σ k n)) ∙ ih l
    go (inr l) ih = let e : n ≡ i = omega (arith, h) in rw (← e) (row_last (load_rows ls σ k n) (row_of ls σ (k + n)) n (rows-length ls σ k n) (row-length ls σ (k + n)))

-- ---- what stands in a row
-- a word between others, and what stands behind it
mid : (a b c : List ℕ) (i n : ℕ) → length a ≡ i → length b ≡ n → take n (drop i (a ++ b ++ c)) ≡ b
mid a b c i n e f = rw (append_assoc a b c, drop_at a (b ++ c) i e) (take_at b c n f)

-- the digits of a power
watts-digits : (a : List ℕ) (w : ℕ) (c : List ℕ) (i : ℕ) → length a ≡ i → take power_digits (drop (suc i) (a ++ watts w ++ c)) ≡ digits power_digits w
unfolding watts
watts-digits a w c i e =
    let n : suc i ≡ length a + 1 = omega (arith, e) in
    ap (λ (x : List ℕ). take power_digits (drop (suc i) x)) (append_assoc a (watts w) c) ∙ ap (λ (m : ℕ). take power_digits (drop m (a ++ (watts w ++ c)))) n
    ∙ ap (take power_digits) (drop-append-add a (watts w ++ c) 1 ∙ append_assoc (digits power_digits w) (bytes "W") c)
    ∙ take_at (digits power_digits w) (bytes "W" ++ c) power_digits (digits-length power_digits w)

-- the blanks that fill a row
abbrev rest : List ℕ → List ℕ
rest s = replicate (row_bytes - length s) blank

-- ---- row one of a plan
module _ (v w : ℕ) where
  abbrev front : List ℕ
  front = bytes "worth " ++ digits worth_digits v

  pub plan-worth : take worth_digits (drop 6 (plan_row v w)) ≡ digits worth_digits v
  unfolding plan_row filled
  plan-worth =
      let r = rest (front ++ watts w) in
      ap (λ (x : List ℕ). take worth_digits (drop 6 x)) (append_assoc front (watts w) r)
      ∙ mid (bytes "worth ") (digits worth_digits v) (watts w ++ r) 6 worth_digits refl (digits-length worth_digits v)

  pub plan-power : take power_digits (drop 13 (plan_row v w)) ≡ digits power_digits w
  unfolding plan_row filled
  plan-power = watts-digits front w (rest (front ++ watts w)) 12 (worth-bytes v)

-- ---- the row of a load
module _ (k m w : ℕ) where
  abbrev head : List ℕ
  head = digits number_digits k ++ (blank ∷ on_off m)

  abbrev tail : List ℕ
  tail = watts w ++ rest (head ++ watts w)

  parts : load_row k m w ≡ head ++ tail
  unfolding load_row filled
  parts = append_assoc head (watts w) (rest (head ++ watts w))

  pub load-number : take number_digits (drop 0 (load_row k m w)) ≡ digits number_digits k
  load-number =
      ap (take number_digits) (parts ∙ append_assoc (digits number_digits k) (blank ∷ on_off m) tail)
      ∙ take_at (digits number_digits k) ((blank ∷ on_off m) ++ tail) number_digits (digits-length number_digits k)

  pub load-mark : take 3 (drop 4 (load_row k m w)) ≡ on_off m
  load-mark =
      let number = digits number_digits k ++ (blank ∷ []) in
      let four : length number ≡ 4 = omega (arith, length-append (digits number_digits k) (blank ∷ []), digits-length number_digits k) in
      ap (λ (x : List ℕ). take 3 (drop 4 x)) (parts ∙ ap (λ (x : List ℕ). x ++ tail) (sym (append_snoc (digits number_digits k) blank (on_off m))))
      ∙ mid number (on_off m) tail 4 3 four (mark-length m)

  pub load-power : take power_digits (drop 8 (load_row k m w)) ≡ digits power_digits w
  unfolding load_row filled
  load-power = watts-digits head w (rest (head ++ watts w)) 7 (mark-bytes k m)

-- ---- ASCII
every-digit : (xs : List ℕ) → every is_digit xs ≡ true → every is_ascii xs ≡ true
unfolding every
every-digit [] e = refl
every-digit (x ∷ xs) e =
    let d = digit-range x (and_left (is_digit x) (every is_digit xs) e) in
    and-true (is_ascii x) (every is_ascii xs) (lt-ltb x 128 (omega (arith, d.1))) (every-digit xs (and_right (is_digit x) (every is_digit xs) e))

every-blank : (n : ℕ) → every is_ascii (replicate n blank) ≡ true
unfolding every
every-blank zero = refl
every-blank (suc n) = every-blank n

filled-ascii : (s : List ℕ) → every is_ascii s ≡ true → every is_ascii (filled s) ≡ true
unfolding filled
filled-ascii s e = every_append is_ascii s (rest s) e (every-blank (row_bytes - length s))

digits-ascii : (k n : ℕ) → every is_ascii (digits k n) ≡ true
digits-ascii k n = every-digit (digits k n) (digits-digits k n)

watts-ascii : (w : ℕ) → every is_ascii (watts w) ≡ true
unfolding watts every
watts-ascii w = every_append is_ascii (digits power_digits w) (bytes "W") (digits-ascii power_digits w) refl

mark-ascii : (m : ℕ) → every is_ascii (blank ∷ on_off m) ≡ true
unfolding every
mark-ascii zero = refl
mark-ascii (suc m) = refl

pub plan-ascii : (v w : ℕ) → every is_ascii (plan_row v w) ≡ true
unfolding plan_row every
plan-ascii v w = filled-ascii (front v w ++ watts w) (every_append is_ascii (front v w) (watts w) (every_append is_ascii (bytes "worth ") (digits worth_digits v) refl (digits-ascii worth_digits v)) (watts-ascii w))

pub no-plan-ascii : every is_ascii no_plan_row ≡ true
unfolding no_plan_row every
no-plan-ascii = filled-ascii (bytes "no plan") refl

row-ascii : (ls : List Load) (σ : ℕ → ℕ) (k : ℕ) → every is_ascii (row_of ls σ k) ≡ true
unfolding row_of load_row every
row-ascii ls σ k = go (between 1 (length ls) k)
  where
    w : ℕ
    w = (get_or ls (k - 1) no_load).power

    go : (b : Bool) → every is_ascii (pick b (load_row k (σ k) w) blank_row) ≡ true
    go true = filled-ascii (head k (σ k) w ++ watts w) (every_append is_ascii (head k (σ k) w) (watts w) (every_append is_ascii (digits number_digits k) (blank ∷ on_off (σ k)) (digits-ascii number_digits k) (mark-ascii (σ k))) (watts-ascii w))
    go false = filled-ascii [] refl

pub rows-ascii : (ls : List Load) (σ : ℕ → ℕ) (k n : ℕ) → every is_ascii (load_rows ls σ k n) ≡ true
unfolding load_rows every
rows-ascii ls σ k zero = refl
rows-ascii ls σ k (suc n) = every_append is_ascii (load_rows ls σ k n) (row_of ls σ (k + n)) (rows-ascii ls σ k n) (row-ascii ls σ (k + n))
