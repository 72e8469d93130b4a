-- The splits of an allowance between a branch and the later children: a loop over the branch's share raises a strip to the best of them,
-- though it passes over shares that give the branch no more than a smaller one did; and either of the two may lead. Assumes nothing.
use Prim.Native.Nat.{ℕ, zero, suc, ◌+◌, ◌-◌, ◌≤◌, ◌<◌, zero-le}
use mathlib.Core.Path.{◌≡◌, refl, sym, ap, ap₂, ◌∙◌}
use mathlib.Core.List.{List}
use Rattle.std.specs.Prelude.{Option, None, Some}
use Rattle.std.specs.Option.{MatchOption, unwrap_or}
use native.Mathlib.Nat.{le_refl, le_of_suc-le-suc, max-eq_right}
use native.Mathlib.Omega.{arith}
use native.Mathlib.Decide.{dec_le}
use borrow.Author.Tests.{lt-leb}
use Rattle.lists.specs.Argmax.{Greatest, argmax}
use Rattle.lists.proofs.Argmax.{argmax-agree, argmax-bound, argmax-least}
use Rattle.meaning.specs.Cell.{◌⊕◌, empty}
use Rattle.meaning.specs.Best.{shares}
use Rattle.meaning.proofs.Cell.{⊕-mono, ⊕-comm, ⊕-left, ⊕-right, ⊕-empty}
use Rattle.cells.specs.Work.{Agrees}
use Rattle.cells.specs.Strip.{moved, Raised, Rising, Starts, Passed, NextStep}
use Rattle.cells.proofs.Strips.{argmax-next, moved_at, raised-agree, raised-start, raised-next}

-- values that are no greater change nothing
argmax-skip : (f : ℕ → ℕ) (c r : ℕ) → c ≤ r → ((d : ℕ) → c ≤ d → d < r → f d ≤ (argmax f c).value) → (argmax f r).value ≡ (argmax f c).value
argmax-skip f c r l h =
    let u = argmax-least f r (argmax f c).value (λ d m. go d m (dec_le c d)) in
    let v = argmax-least f c (argmax f r).value (λ d m. argmax-bound f r d (omega arith)) in
    omega arith
  where
    go : (d : ℕ) → d < r → Dec (c ≤ d) → f d ≤ (argmax f c).value
    go d m (yes k) = h d k m
    go d m (no k) = argmax-bound f c d (omega arith)

-- allowances that are passed over
module _ {f : ℕ → ℕ} {last from to : ℕ} where
  pub passed_none : from ≤ to → Passed f last from to from
  passed_none h = record { low = le_refl from; high = h; at = λ r d l m. absurd (omega arith) }

  pub passed_then : {c : ℕ} → Passed f last from to c → {n : ℕ} → Passed f last c to n → Passed f last from to n
  passed_then {c} p {n} q = record { low = omega (arith, p.low, q.low); high = q.high; at = λ r d l m. go r d l m (dec_le c d) }
    where
      go : Rising f to → (d : ℕ) → from ≤ d → d < n → Dec (c ≤ d) → f d ≤ last
      go r d l m (yes u) = q.at r d u m
      go r d l m (no u) = p.at r d l (omega arith)

-- allowances up to one at which the cells still say the same
pub passed-stride : {f : ℕ → ℕ} {last to : ℕ} (c e n : ℕ) → c ≤ e → e < to → f e ≡ last → n ≡ e + 1 → Passed f last c to n
passed-stride c e n k h q o = record { low = omega arith; high = omega arith; at = λ r d l m. omega (arith, r d e (omega arith) h) }

-- the first that says something else than last, after those passed over: a step
pub step-found : (f : ℕ → ℕ) (last from to : ℕ) {near : ℕ} → Passed f last from to near → (found : Option ℕ)
    → MatchOption found ((a : ℕ) → near ≤ a → a < to → f a ≡ last)
    (λ c. (near ≤ c) × (c < to) × (f c ≡ last → ⊥) × ((a : ℕ) → near ≤ a → a < c → f a ≡ last))
    → NextStep f last from to found
step-found f last from to p None h = passed_then p (record { low = p.high; high = le_refl to; at = λ r d l m. omega (arith, h d l m) })
step-found f last from to p (Some c) h =
    (h.1, passed_then p (record { low = h.0; high = omega arith; at = λ r d l m. omega (arith, h.3 d l m) }), h.2)

-- where the next step is, past the last allowance where there is none
abbrev pub step_or : Option ℕ → (to : ℕ) → ℕ
step_or found to = unwrap_or found to

pub step-passed : {f : ℕ → ℕ} {last from to : ℕ} (found : Option ℕ) → NextStep f last from to found → Passed f last from to (step_or found to)
step-passed None h = h
step-passed (Some c) h = h.1

pub step-within : (f : ℕ → ℕ) (last from to : ℕ) (found : Option ℕ) → NextStep f last from to found → MatchOption found (Unit {0}) (λ c. c < to)
step-within f last from to None h = tt
step-within f last from to (Some c) h = h.0

-- cells that do not fall say something from the first step on
passed-starts : {f : ℕ → ℕ} {to n : ℕ} → Rising f to → Passed f 0 0 to n → (n < to → f n ≡ 0 → ⊥) → Starts f n to
passed-starts {f} {to} {n} r p h = record { none = λ c l. omega (arith, p.at r c zero-le l); some = λ c l m. go c l m (f n) refl }
  where
    go : (c : ℕ) → n ≤ c → c < to → (z : ℕ) → f n ≡ z → 0 < f c
    go c l m zero e = absurd (h (omega arith) e)
    go c l m (suc z) e = omega (arith, r n c l m)

pub step-starts : {f : ℕ → ℕ} {to : ℕ} → Rising f to → (found : Option ℕ) → NextStep f 0 0 to found → Starts f (step_or found to) to
step-starts r None h = passed-starts r h (λ l. absurd (omega arith))
step-starts r (Some c) h = passed-starts r h.1 (λ l. h.2)

-- the parts of an allowance, one after the other
module _ (x y : ℕ → ℕ) where
  abbrev parts : ℕ → ℕ → ℕ
  parts a c = moved c (x c) y a

  parts-shares : (a : ℕ) → (argmax (parts a) (suc a)).value ≡ (shares x y a).value
  parts-shares a = ap (λ (p : Greatest). p.value) (argmax-agree (parts a) _ (suc a) (λ c l. moved_at c (x c) y a (le_of_suc-le-suc l)))

  parts_all : (a n : ℕ) → a < n → (argmax (parts a) n).value ≡ (shares x y a).value
  parts_all a n h = argmax-skip (parts a) (suc a) n h (λ c l m. rw (lt-leb c a l) zero-le) ∙ parts-shares a

  -- what the branch got with one unit less
  abbrev pub before : ℕ → ℕ
  before zero = 0
  before (suc c) = x c

  parts-dominated : (n : ℕ) → Rising y n → (a c d : ℕ) → a < n → c ≤ d → x d ≤ before c → parts a d ≤ (argmax (parts a) c).value
  parts-dominated n r a c d h k e = go c k e (dec_le d a)
    where
      go : (c : ℕ) → c ≤ d → x d ≤ before c → Dec (d ≤ a) → parts a d ≤ (argmax (parts a) c).value
      go c k e (no l) = rw (lt-leb d a (omega arith)) zero-le
      go zero k e (yes l) = rw (moved_at d (x d) y a l, ⊕-left (x d) (y (a - d)) (omega arith)) zero-le
      go (suc c) k e (yes l) =
          let b = argmax-bound (parts a) (suc c) c (omega arith) in
          let m = ⊕-mono (x d) (x c) (y (a - d)) (y (a - c)) e (r (a - d) (a - c) (omega arith) (omega arith)) in
          omega (arith, moved_at d (x d) y a l, moved_at c (x c) y a (omega arith))

  -- the strip t is s raised to the first c parts
  abbrev pub Shared : List ℕ → List ℕ → ℕ → ℕ → ℕ → Type 0
  Shared s t from to c = Rising x to → Rising y to → Raised s t from to (λ a. (argmax (parts a) c).value)

  module _ (s t : List ℕ) (from to c : ℕ) (p : Shared s t from to c) where
    pub shared-skip : {n : ℕ} → Passed x (before c) c to n → Shared s t from to n
    shared-skip {n} e q r =
        raised-agree (p q r) _ (λ a l m. sym (argmax-skip (parts a) c n e.low (λ d u v. parts-dominated to r a c d m u (e.at q d u v))))

    pub shared-take : {u : List ℕ} → (Rising y to → Raised t u from to (moved c (x c) y)) → Shared s u from to (c + 1)
    shared-take k q r = raised-next parts c (p q r) (k r)

    pub shared-done : to ≤ c → Rising x to → Rising y to → Raised s t from to (λ a. (shares x y a).value)
    shared-done h q r = raised-agree (p q r) _ (λ a l m. parts_all a c (omega arith))

  pub shared-none : (s : List ℕ) (from to : ℕ) → Shared s s from to 0
  shared-none s from to q r = raised-start parts s from to

-- either of the two may lead
shares-le : (x y : ℕ → ℕ) (a : ℕ) → (shares x y a).value ≤ (shares y x a).value
shares-le x y a = argmax-least (λ c. x c ⊕ y (a - c)) (suc a) _ (λ c l.
    let e : a - (a - c) ≡ c = omega arith in
    let b = argmax-bound (λ d. y d ⊕ x (a - d)) (suc a) (a - c) (omega arith) in
    omega (arith, ⊕-comm (x c) (y (a - c)), ap (λ z. y (a - c) ⊕ x z) e))

pub shares-swap : (x y : ℕ → ℕ) (a : ℕ) → (shares x y a).value ≡ (shares y x a).value
shares-swap x y a = omega (arith, shares-le x y a, shares-le y x a)

-- as far as two sides say what others do, so do their splits
pub rising-agree : {f g : ℕ → ℕ} {n : ℕ} → Agrees f g n → Rising g n → Rising f n
rising-agree h r c d l m = omega (arith, h c (omega arith), h d m, r c d l m)

pub shares-agree : {f g x y : ℕ → ℕ} {n : ℕ} → Agrees f x n → Agrees g y n → (a : ℕ) → a < n → (shares f g a).value ≡ (shares x y a).value
shares-agree h k a l =
    ap (λ (p : Greatest). p.value) (argmax-agree _ _ (suc a) (λ c m. ap₂ (λ u v. u ⊕ v) (h c (omega arith)) (k (a - c) (omega arith))))

-- a branch at the end of its row
module _ (f : ℕ → ℕ) (n : ℕ) (r : Rising f n) where
  pub share-last : (a : ℕ) → a < n → (shares f (λ _. empty) a).value ≡ f a
  share-last a h =
      ap (λ m. (argmax (λ c. f c ⊕ empty) m).value) (omega arith) ∙ argmax-next (λ c. f c ⊕ empty) a
      ∙ max-eq_right (argmax-least (λ c. f c ⊕ empty) a _ (λ c l. omega (arith, ⊕-empty (f c), ⊕-empty (f a), r c a (omega arith) h))) ∙ ⊕-empty (f a)

pub share-none : (f : ℕ → ℕ) (a : ℕ) → (shares f (λ _. 0) a).value ≡ 0
share-none f a = let h = argmax-least (λ c. f c ⊕ 0) (suc a) 0 (λ c l. omega (arith, ⊕-right (f c) 0 refl)) in omega arith
