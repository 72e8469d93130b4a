-- Laws of strips: how a loop raises one, value after value, and how one is stored. Assumes nothing.
use Prim.Native.Nat.{ℕ, zero, suc, max, ◌+◌, ◌-◌, ◌%◌, ◌≤◌, ◌<◌, zero-le}
use mathlib.Core.Path.{◌≡◌, refl, sym, ap, ◌∙◌}
use mathlib.Core.Bool.{Bool, true, false, cond}
use mathlib.Core.Logic.{◌⊎◌, inl, inr}
use mathlib.Core.List.{List}
use native.Mathlib.Nat.{le_refl, eq-or-lt_of_le, zero-max}
use native.Mathlib.Numerals.{add-one}
use native.Mathlib.Omega.{arith}
use native.Mathlib.Decide.{dec_le, dec_lt}
use borrow.Author.Tests.{ltb-true, ltb-false, le-leb, lt-leb}
use lib.Dec.{ltb, leb}
use lib.ListN.{length, get_or, set, replicate, take, length-take}
use lib.Seq.{get_or-set_same, get_or-set_other, get_or-take}
use Rattle.std.proofs.lemmas.List.{get_or_past}
use Rattle.lists.specs.Argmax.{guard, argmax}
use Rattle.meaning.specs.Cell.{cell, power_limit, ◌⊕◌}
use Rattle.meaning.proofs.Cell.{⊕-right, ⊕-both}
use Rattle.cells.specs.Work.{Agrees}
use Rattle.cells.specs.Strip.{strip_limit, Small, moved, Raised, Starts}

-- the greater of two
max_none : (x y : ℕ) → y ≡ 0 → x ≡ max x y
max_none x y e = omega arith

max_assoc : (x y z : ℕ) → max (max x y) z ≡ max x (max y z)
max_assoc x y z = omega arith

-- the greatest value, with one value more
pub argmax-next : (f : ℕ → ℕ) (n : ℕ) → (argmax f (n + 1)).value ≡ max (argmax f n).value (f n)
unfolding argmax
argmax-next f n = rw add-one (go (ltb (argmax f n).value (f n)) refl)
  where
    go : (t : Bool) → ltb (argmax f n).value (f n) ≡ t
        → (cond t (record { value = f n; index = n }) (argmax f n)).value ≡ max (argmax f n).value (f n)
    go true e = omega (arith, ltb-true (argmax f n).value (f n) e)
    go false e = omega (arith, ltb-false (argmax f n).value (f n) e)

-- a loop that raises a strip from an allowance on: below i it is done, and from i on and below `from` it is as it was
pub record Part (s t : List ℕ) (from i : ℕ) (f : ℕ → ℕ) : Type 0 where
  pub small : Small s → Small t
  pub under : (a : ℕ) → a < from → get_or t a 0 ≡ get_or s a 0
  pub done : Small s → (a : ℕ) → from ≤ a → a < i → get_or t a 0 ≡ max (get_or s a 0) (f a)
  pub rest : (a : ℕ) → i ≤ a → get_or t a 0 ≡ get_or s a 0

-- it may begin where f does
pub part_none : (s : List ℕ) (from i : ℕ) (f : ℕ → ℕ) → ((a : ℕ) → from ≤ a → a < i → f a ≡ 0) → Part s s from i f
part_none s from i f h = record { small = λ o. o; under = λ a l. refl; done = λ o a l m. max_none _ _ (h a l m); rest = λ a l. refl }

module _ {s t : List ℕ} {from i : ℕ} {f : ℕ → ℕ} (p : Part s t from i f) where
  pub part-more : (v y : ℕ) → from ≤ i → i < length t → v ≡ max (get_or t i 0 % strip_limit) y → y ≡ f i → y < strip_limit → Part s (set t i v) from (i + 1) f
  part-more v y b h e z k = record {
    small = λ o a. little (p.small o) a (dec_le a i) (dec_le i a);
    under = λ a l. get_or-set_other t i a v 0 (λ q. absurd (omega arith)) ∙ p.under a l;
    done = λ o a l m. go o a l (eq-or-lt_of_le (omega arith));
    rest = λ a l. get_or-set_other t i a v 0 (λ q. absurd (omega arith)) ∙ p.rest a (omega arith);
  }
    where
      here : Small t → v < strip_limit
      here o = omega (arith, o i)

      little : Small t → (a : ℕ) → Dec (a ≤ i) → Dec (i ≤ a) → get_or (set t i v) a 0 < strip_limit
      little o a (yes l) (yes m) = let q : a ≡ i = omega arith in rw (q, get_or-set_same t i v 0 h) (here o)
      little o a (yes l) (no m) = rw (get_or-set_other t i a v 0 (λ q. absurd (omega arith))) (o a)
      little o a (no l) k = rw (get_or-set_other t i a v 0 (λ q. absurd (omega arith))) (o a)

      go : Small s → (a : ℕ) → from ≤ a → (a ≡ i) ⊎ (a < i) → get_or (set t i v) a 0 ≡ max (get_or s a 0) (f a)
      go o a l (inl q) = rw q (omega (arith, get_or-set_same t i v 0 h, p.small o i, p.rest i (le_refl i)))
      go o a l (inr q) = get_or-set_other t i a v 0 (λ r. absurd (omega arith)) ∙ p.done o a l q

  pub part-done : (to : ℕ) → to ≤ i → Raised s t from to f
  part-done to h = record { small = p.small; below = p.under; at = λ o a l m. p.done o a l (omega arith) }

-- two cells together are no more than their sum
pub joined-le : (x y : ℕ) → x ⊕ y ≤ x + y
unfolding ◌⊕◌ cell
joined-le zero y = zero-le
joined-le (suc x) zero = zero-le
joined-le (suc x) (suc y) = omega arith

-- cells that are moved up
pub moved_at : (shift own : ℕ) (f : ℕ → ℕ) (a : ℕ) → shift ≤ a → moved shift own f a ≡ own ⊕ f (a - shift)
moved_at shift own f a h = rw (le-leb shift a h)

pub moved_none : (shift own : ℕ) (f : ℕ → ℕ) (a : ℕ) → a < shift → moved shift own f a ≡ 0
moved_none shift own f a h = rw (lt-leb shift a h)

pub moved-agree : {f g : ℕ → ℕ} {n : ℕ} → Agrees f g n → (shift own a : ℕ) → a < n → moved shift own f a ≡ moved shift own g a
moved-agree h shift own a l = ap (λ z. guard (leb shift a) (own ⊕ z)) (h (a - shift) (omega arith))

-- the strip as it is, where nothing is above 0
pub raised-none : (s : List ℕ) (from to : ℕ) (f : ℕ → ℕ) → ((a : ℕ) → from ≤ a → a < to → f a ≡ 0) → Raised s s from to f
raised-none s from to f h = record { small = λ o. o; below = λ a l. refl; at = λ o a l m. max_none _ _ (h a l m) }

pub raised-agree : {s t : List ℕ} {from to : ℕ} {f : ℕ → ℕ} → Raised s t from to f → (g : ℕ → ℕ)
    → ((a : ℕ) → from ≤ a → a < to → f a ≡ g a) → Raised s t from to g
raised-agree {s} r g h = record { small = r.small; below = r.below; at = λ o a l m. r.at o a l m ∙ ap (max (get_or s a 0)) (h a l m) }

-- a strip may be raised from an allowance on below which f says nothing
pub raised-from : {s t : List ℕ} {start to : ℕ} {f : ℕ → ℕ} → Raised s t start to f → (from : ℕ) → from ≤ start
    → ((a : ℕ) → from ≤ a → a < start → f a ≡ 0) → Raised s t from to f
raised-from {s} {t} {start} {to} {f} r from b h = record {
  small = r.small;
  below = λ a l. r.below a (omega arith);
  at = λ o a l m. go o a l m (dec_le start a);
}
  where
    go : Small s → (a : ℕ) → from ≤ a → a < to → Dec (start ≤ a) → get_or t a 0 ≡ max (get_or s a 0) (f a)
    go o a l m (yes k) = r.at o a k m
    go o a l m (no k) = r.below a (omega arith) ∙ max_none _ _ (h a l (omega arith))

-- a cell of a set that is no worse than the empty one adds as much to each cell, from where they say something on
pub raised-more : {s t : List ℕ} {f : ℕ → ℕ} {first to : ℕ} → Starts f first to → (c v from start : ℕ) → power_limit ≤ v → start ≡ max from (c + first)
    → Raised s t start to (λ a. f (a - c) + (v - power_limit)) → Raised s t from to (moved c v f)
raised-more {s} {t} {f} {first} {to} k c v from start h e r =
    raised-from (raised-agree r (moved c v f) above) from (omega arith) (λ a l m. under a l m (dec_le c a))
  where
    above : (a : ℕ) → start ≤ a → a < to → f (a - c) + (v - power_limit) ≡ moved c v f a
    above a l m =
        let some : 0 < f (a - c) = k.some (a - c) (omega arith) (omega arith) in
        omega (arith, moved_at c v f a (omega arith), ⊕-both v (f (a - c)) (λ q. absurd (omega arith)) (λ q. absurd (omega arith)))

    under : (a : ℕ) → from ≤ a → a < start → Dec (c ≤ a) → moved c v f a ≡ 0
    under a l m (yes q) = moved_at c v f a q ∙ ⊕-right v (f (a - c)) (k.none (a - c) (omega arith))
    under a l m (no q) = moved_none c v f a (omega arith)

-- a strip of zeros that is raised to f holds f
pub zeros : (n a : ℕ) → get_or {A = ℕ} (replicate n 0) a 0 ≡ 0
zeros zero a = refl
zeros (suc n) zero = refl
zeros (suc n) (suc a) = zeros n a

pub zeros-raised : (n to : ℕ) → to ≤ n → {t : List ℕ} {from : ℕ} {f : ℕ → ℕ}
    → Raised (take to (replicate n 0)) t from to f → (a : ℕ) → from ≤ a → a < to → get_or t a 0 ≡ f a
zeros-raised n to h {f = f} r a l m =
    r.at (λ b. omega (arith, front b)) a l m ∙ ap (λ z. max z (f a)) (front a) ∙ zero-max (f a)
  where
    front : (a : ℕ) → get_or (take to (replicate {A = ℕ} n 0)) a 0 ≡ 0
    front a = go (dec_lt a to)
      where
        go : Dec (a < to) → get_or (take to (replicate {A = ℕ} n 0)) a 0 ≡ 0
        go (yes l) = get_or-take to (replicate n 0) a 0 l ∙ zeros n a
        go (no l) = get_or_past (take to (replicate n 0)) a 0 (omega (arith, length-take to (replicate {A = ℕ} n 0)))

-- a strip that is raised to one value after another is raised to the greatest
pub raised-start : (f : ℕ → ℕ → ℕ) (s : List ℕ) (from to : ℕ) → Raised s s from to (λ a. (argmax (f a) 0).value)
unfolding argmax
raised-start f s from to = raised-none s from to (λ a. 0) (λ a l m. refl)

pub raised-next : (f : ℕ → ℕ → ℕ) (j : ℕ) {s t u : List ℕ} {from to : ℕ} → Raised s t from to (λ a. (argmax (f a) j).value)
    → Raised t u from to (λ a. f a j) → Raised s u from to (λ a. (argmax (f a) (j + 1)).value)
raised-next f j {s} p q = record {
  small = λ o. q.small (p.small o);
  below = λ a l. q.below a l ∙ p.below a l;
  at = λ o a l m. q.at (p.small o) a l m ∙ ap (λ z. max z (f a j)) (p.at o a l m)
      ∙ max_assoc (get_or s a 0) _ (f a j) ∙ ap (max (get_or s a 0)) (sym (argmax-next (f a) j));
}
