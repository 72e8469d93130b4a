-- The rows of the table, and those of the code beside them: what a search of the rows finds. Assumes nothing.
use Prim.Native.Nat.{ℕ, ◌-◌, ◌≤◌, max}
use mathlib.Core.Path.{◌≡◌, refl, sym, ap, ◌∙◌}
use mathlib.Core.Bool.{Bool, true, false, ◌&&◌, not, cond}
use mathlib.Core.List.{List, [], ◌∷◌}
use native.Mathlib.Nat.{le_trans, le_refl}
use native.Mathlib.Omega.{arith}
use borrow.Author.Tests.{not-true, leb-true}
use lib.Dec.{eqb, leb, ltb}
use lib.ListN.{length, get_or}
use Rattle.std.proofs.Common.{Option, Some, None}
use Rattle.std.specs.List.{find, fold}
use Rattle.std.specs.Str.{bytes_eq}
use Rattle.lists.specs.Tests.{pick, every}
use Rattle.lists.proofs.Bools.{and_left, and_right}
use Rattle.lines.specs.declared.Command.{Command}
use Rattle.lines.specs.declared.Command.TheVariants.{Broken}
use Rattle.lines.specs.declared.reading.Numbers.{Numbers}
use Rattle.lines.specs.declared.reading.Row.{Row as RowOfCode}
use Rattle.lines.specs.Text.{bytes, comma, same}
use Rattle.lines.specs.Grammar.{Form, numbers, bits, table}
use Rattle.lines.specs.Reading.{most_numbers, most_from, row_command, requested}
use Rattle.lines.proofs.Same.{same-is, same_bytes}

-- ---- what every row keeps to: few letters, each a byte past the comma, and few numbers. `check` is the word before bits, and no other
abbrev pub check : List ℕ
check = bytes "check"

-- no word of the table has more bytes
abbrev pub most_letters : ℕ
most_letters = 6

abbrev pub is_letter : ℕ → Bool
is_letter b = ltb comma b && ltb b 256

abbrev keeps : Form → Bool
keeps (numbers w n f) = every is_letter w && leb (length w) most_letters && leb n most_numbers && not (same check w)
keeps (bits w f) = same w check

pub record Row (w : List ℕ) (n : ℕ) : Type 0 where
  pub letters : every is_letter w ≡ true
  pub few : length w ≤ most_letters
  pub count : n ≤ most_numbers
  pub other : same check w ≡ false

abbrev pub Kept : List Form → Type 0
Kept [] = Unit {0}
Kept (numbers w n f ∷ xs) = Row w n × Kept xs
Kept (bits w f ∷ xs) = (w ≡ check) × Kept xs

keeps-row : (w : List ℕ) (n : ℕ) (f : (ℕ → ℕ) → Command) → keeps (numbers w n f) ≡ true → Row w n
keeps-row w n f k =
    let a : Bool = every is_letter w in
    let b : Bool = leb (length w) most_letters in
    let c : Bool = leb n most_numbers in
    let d : Bool = not (same check w) in
    let l = and_left (a && b && c) d k in
    let m = and_left (a && b) c l in
    record {
      letters = and_left a b m;
      few = leb-true (length w) most_letters (and_right a b m);
      count = leb-true n most_numbers (and_right (a && b) c l);
      other = not-true (same check w) (and_right (a && b && c) d k);
    }

keeps-all : (xs : List Form) → every keeps xs ≡ true → Kept xs
unfolding every
keeps-all [] h = tt
keeps-all (numbers w n f ∷ xs) h = (keeps-row w n f (and_left (keeps (numbers w n f)) (every keeps xs) h), keeps-all xs (and_right (keeps (numbers w n f)) (every keeps xs) h))
keeps-all (bits w f ∷ xs) h = (same-is w check (and_left (same w check) (every keeps xs) h), keeps-all xs (and_right (same w check) (every keeps xs) h))

pub kept : Kept table
unfolding every same
kept = keeps-all table refl

-- ---- the most numbers after a word
pub most-least : (k : ℕ) (w : List ℕ) (xs : List Form) → k ≤ most_from k w xs
unfolding most_from
most-least k w [] = le_refl k
most-least k w (numbers v n f ∷ xs) = le_trans (go (same v w)) (most-least (pick (same v w) (max n k) k) w xs)
  where
    go : (t : Bool) → k ≤ pick t (max n k) k
    go true = omega arith
    go false = le_refl k
most-least k w (bits v f ∷ xs) = most-least k w xs

pub most-few : (w : List ℕ) (xs : List Form) → Kept xs → (k : ℕ) → k ≤ most_numbers → most_from k w xs ≤ most_numbers
unfolding most_from
most-few w [] q k h = h
most-few w (numbers v n f ∷ xs) q k h = most-few w xs q.1 (pick (same v w) (max n k) k) (go (same v w))
  where
    go : (t : Bool) → pick t (max n k) k ≤ most_numbers
    go true = omega (arith, q.0.count)
    go false = h
most-few w (bits v f ∷ xs) q k h = most-few w xs q.1 k h

-- ---- the rows of the code are those of the table that have numbers
abbrev pub Matches : List RowOfCode → List Form → Type 0
Matches rs [] = rs ≡ []
Matches rs (bits v f ∷ xs) = Matches rs xs
Matches [] (numbers v n f ∷ xs) = ⊥
Matches (r ∷ rs) (numbers v n f ∷ xs) = (r.0.now ≡ v) × (r.1 ≡ n) × ((ns : List ℕ) → requested r.2 ns ≡ f (λ k. get_or ns (k - 1) 0)) × Matches rs xs

module _ (w : List ℕ) where
  abbrev pub or_more : ℕ → RowOfCode → ℕ
  or_more k r = cond (bytes_eq r.0.now w) (max r.1 k) k

  most-found : (k : ℕ) (rs : List RowOfCode) (xs : List Form) → Matches rs xs → fold or_more k rs ≡ most_from k w xs
  unfolding most_from
  most-found k rs [] q = rw q
  most-found k rs (bits v f ∷ xs) q = most-found k rs xs q
  most-found k [] (numbers v n f ∷ xs) q = absurd q
  most-found k (r ∷ rs) (numbers v n f ∷ xs) q =
      go (bytes_eq r.0.now w) refl (sym (same_bytes v w) ∙ ap (λ (u : List ℕ). bytes_eq u w) (sym q.0)) (λ j. most-found j rs xs q.3)
    where
      go : (t : Bool) → bytes_eq r.0.now w ≡ t → same v w ≡ bytes_eq r.0.now w → ((j : ℕ) → fold or_more j rs ≡ most_from j w xs)
          → fold or_more k (r ∷ rs) ≡ most_from k w (numbers v n f ∷ xs)
      go true e g ih = rw (g, e, ← q.1) (ih (max r.1 k))
      go false e g ih = rw (g, e) (ih k)

  pub most-of-rows : {m : ℕ} {l rs : List RowOfCode} → l ≡ rs → m ≡ fold or_more 0 rs → Matches rs table → m ≡ most_from 0 w table
  most-of-rows {m} {l} {rs} here e q = e ∙ most-found 0 rs table q

  -- the row that is found, by its word and the count of the numbers
  abbrev pub is_row : ℕ → RowOfCode → Bool
  is_row n r = bytes_eq r.0.now w && eqb n r.1

  abbrev pub command_by : Option RowOfCode → List ℕ → Command
  command_by None ns = Broken
  command_by (Some r) ns = requested r.2 ns

  row-found : (n : Numbers) (rs : List RowOfCode) (xs : List Form) → Matches rs xs → command_by (find (is_row n.count) rs) n.values ≡ row_command xs w n
  unfolding row_command
  row-found n rs [] q = rw q
  row-found n rs (bits v f ∷ xs) q = row-found n rs xs q
  row-found n [] (numbers v k f ∷ xs) q = absurd q
  row-found n (r ∷ rs) (numbers v k f ∷ xs) q =
      go (bytes_eq r.0.now w && eqb n.count r.1) refl (sym (same_bytes v w) ∙ ap (λ (u : List ℕ). bytes_eq u w) (sym q.0)) (row-found n rs xs q.3)
    where
      go : (t : Bool) → bytes_eq r.0.now w && eqb n.count r.1 ≡ t → same v w ≡ bytes_eq r.0.now w → command_by (find (is_row n.count) rs) n.values ≡ row_command xs w n
          → command_by (find (is_row n.count) (r ∷ rs)) n.values ≡ row_command (numbers v k f ∷ xs) w n
      go true e g ih = rw (g, ← q.1, e) (q.2 n.values)
      go false e g ih = rw (g, ← q.1, e) ih

  pub row-of-rows : (n : Numbers) {o : Option RowOfCode} {l rs : List RowOfCode} → l ≡ rs → o ≡ find (is_row n.count) rs → Matches rs table → command_by o n.values ≡ row_command table w n
  row-of-rows n {o} {l} {rs} here e q = ap (λ (x : Option RowOfCode). command_by x n.values) e ∙ row-found n rs table q
