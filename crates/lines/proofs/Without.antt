-- Bytes with no x among them: the field or the line that they are, alone or before the byte that ends it. Assumes nothing.
use Prim.Native.Nat.{ℕ, ◌<◌}
use mathlib.Core.Path.{◌≡◌, refl}
use mathlib.Core.Bool.{true, false}
use mathlib.Core.List.{List, [], ◌∷◌, ◌++◌}
use native.Mathlib.Omega.{arith}
use borrow.Author.Tests.{ne_eqb}
use lib.Dec.{eqb}
use Rattle.lists.specs.Tests.{every}
use Rattle.lists.proofs.Bools.{and_left, and_right}
use Rattle.lines.specs.Text.{comma, line_feed, nought}
use Rattle.lines.specs.Grammar.{fields, is_digit}
use Rattle.lines.specs.Input.{lines}
use Rattle.lines.proofs.Decimal.{digit-range}

pub data Without (x : ℕ) : List ℕ → Type 0 where
  none : Without x []
  byte : {b : ℕ} {bs : List ℕ} → eqb b x ≡ false → Without x bs → Without x (b ∷ bs)

pub without-append : {x : ℕ} {a b : List ℕ} → Without x a → Without x b → Without x (a ++ b)
without-append none q = q
without-append (byte e p) q = byte e (without-append p q)

-- digits are neither commas nor line feeds
pub without-digits : (x : ℕ) → x < nought → (f : List ℕ) → every is_digit f ≡ true → Without x f
unfolding every
without-digits x l [] h = none
without-digits x l (b ∷ bs) h =
    byte (ne_eqb b x (λ e. absurd (omega (arith, (digit-range b (and_left (is_digit b) (every is_digit bs) h)).0))))
    (without-digits x l bs (and_right (is_digit b) (every is_digit bs) h))

-- ---- fields
pub fields-last : {f : List ℕ} → Without comma f → fields f ≡ f ∷ []
unfolding fields
fields-last none = refl
fields-last (byte e p) = rw (e, fields-last p)

pub fields-first : {f : List ℕ} (s : List ℕ) → Without comma f → fields (f ++ (comma ∷ s)) ≡ f ∷ fields s
unfolding fields
fields-first s none = refl
fields-first s (byte e p) = rw (e, fields-first s p)

-- ---- lines
pub lines-last : {b : ℕ} {l : List ℕ} → Without line_feed (b ∷ l) → lines (b ∷ l) ≡ (b ∷ l) ∷ []
unfolding lines
lines-last (byte e none) = rw e
lines-last (byte e (byte d p)) = rw (e, lines-last (byte d p))

pub lines-first : {l : List ℕ} (s : List ℕ) → Without line_feed l → lines (l ++ (line_feed ∷ s)) ≡ l ∷ lines s
unfolding lines
lines-first s none = refl
lines-first s (byte e p) = rw (e, lines-first s p)
