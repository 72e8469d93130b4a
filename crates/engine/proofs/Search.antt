-- Searches of the cells: a turn of a loop that keeps the greatest value, values that count where a test passes, and the lowest number with the
-- greatest value, found by comparing. Assumes nothing.
use Prim.Native.Nat.{ℕ, suc, zero-le, ◌+◌, ◌-◌, ◌≤◌, ◌<◌}
use mathlib.Core.Path.{◌≡◌, refl, sym, ap, ap₂, ◌∙◌}
use mathlib.Core.Bool.{Bool, true, false}
use mathlib.Core.List.{List}
use Rattle.std.specs.Prelude.{Option, None, Some, IfSome, MatchOption}
use native.Mathlib.Numerals.{add-one}
use native.Mathlib.Omega.{arith}
use native.Mathlib.Decide.{dec_lt}
use borrow.Author.Tests.{le-ltb, lt-ltb}
use lib.Dec.{ltb}
use lib.ListN.{length}
use Rattle.lists.specs.Argmax.{guard, Greatest, argmax, improve}
use Rattle.lists.specs.Tests.{first_from}
use Rattle.lists.proofs.Tests.{first-here, first-later}
use Rattle.lists.proofs.Argmax.{argmax-bound, argmax-found, argmax-first}
use Rattle.cells.specs.declared.problem.Shape.{Shape}
use Rattle.cells.specs.Work.{place_of, Ready}
use Rattle.cells.proofs.Places.{place-room}
use Rattle.engine.specs.Search.{FirstAt, Reaches}

-- ---- what there is
pub some_same : {A : Type 0} {x y : A} → Some x ≡ Some y → x ≡ y
some_same e = cc

pub none-some : {A : Type 0} {x : A} → None ≡ Some x → ⊥
none-some e = cc

pub greatest-none : (f : ℕ → ℕ) → record { value = 0; index = 0 } ≡ argmax f 0
unfolding argmax
greatest-none f = refl

pub greatest-turn : (f : ℕ → ℕ) (n x : ℕ) (b b' : Greatest) → b ≡ argmax f n → x ≡ f n → b' ≡ improve b n x → b' ≡ argmax f (n + 1)
unfolding argmax
greatest-turn f n x b b' e h i = i ∙ ap₂ (λ q y. improve q n y) e h ∙ ap (argmax f) (sym (add-one n))

pub guard-off : (b : Bool) (x : ℕ) → b ≡ false → guard b x ≡ 0
guard-off b x e = rw e

pub guard-on : (b : Bool) (x : ℕ) → b ≡ true → guard b x ≡ x
guard-on b x e = rw e

-- a number that has the greatest value, where no lower one has it
pub argmax-met : (f : ℕ → ℕ) (n j : ℕ) → j < n → 0 < (argmax f n).value → f j ≡ (argmax f n).value
    → ((m : ℕ) → m < j → f m ≡ (argmax f n).value → ⊥) → (argmax f n).index ≡ j
argmax-met f n j l pos e h = go (dec_lt (argmax f n).index j) (dec_lt j (argmax f n).index)
  where
    go : Dec ((argmax f n).index < j) → Dec (j < (argmax f n).index) → (argmax f n).index ≡ j
    go (yes k) d = absurd (h (argmax f n).index k (argmax-found f n pos).1)
    go (no k) (yes d) = absurd (omega (arith, argmax-first f n j d, e))
    go (no k) (no d) = omega arith

-- so the first that reaches a goal which no value exceeds
pub first-reaches : (f : ℕ → ℕ) (goal c : ℕ) (r : Option ℕ) → FirstAt f goal (c + 1) r → 0 < goal → (argmax f (suc c)).value ≤ goal
    → Reaches (argmax f (suc c)).value (argmax f (suc c)).index goal r
first-reaches f goal c None h pos le =
    λ e. let k = argmax-found f (suc c) (omega arith) in h (argmax f (suc c)).index (omega (arith, k.0)) (k.1 ∙ e)
first-reaches f goal c (Some r) h pos le = (whole, sym index)
  where
    whole : (argmax f (suc c)).value ≡ goal
    whole = omega (arith, argmax-bound f (suc c) r (omega (arith, h.0)), h.1, le)

    index : (argmax f (suc c)).index ≡ r
    index = argmax-met f (suc c) r (omega (arith, h.0)) (omega (arith, whole)) (h.1 ∙ sym whole) (λ m k e. h.2 m k (e ∙ whole))

pub first-within : (f : ℕ → ℕ) (goal c : ℕ) (r : Option ℕ) → FirstAt f goal (c + 1) r → IfSome r (λ a. a ≤ c)
first-within f goal c None h = tt
first-within f goal c (Some r) h = omega (arith, h.0)

-- the first is found by a search of the range
pub first-at : (f : ℕ → ℕ) (goal n : ℕ) (r : Option ℕ)
    → MatchOption r ((m : ℕ) → 0 ≤ m → m < n → f m ≡ goal → ⊥) (λ i. (0 ≤ i) × (i < n) × (f i ≡ goal) × ((m : ℕ) → 0 ≤ m → m < i → f m ≡ goal → ⊥))
    → FirstAt f goal n r
first-at f goal n None h = λ m l. h m zero-le l
first-at f goal n (Some r) h = (h.1, h.2, λ m l. h.3 m zero-le l)

-- a cell is within the work
pub cell-within : (sh : Shape) (w : List ℕ) → Ready sh w → (k x c : ℕ) → 0 < k → k ≤ sh.loads → x < sh.states + sh.stages → c ≤ sh.budget
    → (at : ℕ) → at ≡ place_of sh k x → at + c < length w
cell-within sh w r k x c o l m b at e = omega (arith, place-room sh k x o l m, e, r.room)

-- the first of the allowances from c on, below n
module _ (f : ℕ → ℕ) (floor n : ℕ) where
  unfoldable pub from : ℕ → ℕ
  from c = first_from (λ a. ltb floor (f a)) c (n - c)

  pub begins : first_from (λ a. ltb floor (f a)) 0 n ≡ from 0
  unfolding from
  begins = let e : n ≡ n - 0 = omega arith in ap (first_from _ 0) e

  pub goes : (c x : ℕ) → c < n → x ≡ f c → x ≤ floor → from c ≡ from (c + 1)
  unfolding from
  goes c x l e h =
      let m : n - c - 1 ≡ n - (c + 1) = omega arith in
      first-later (λ a. ltb floor (f a)) c (n - c) (omega arith) (le-ltb floor (f c) (omega arith)) ∙ ap (first_from _ (c + 1)) m

  pub stops : (c x : ℕ) → x ≡ f c → floor < x → c ≡ from c
  unfolding from
  stops c x e h = sym (first-here (λ a. ltb floor (f a)) c (n - c) (lt-ltb floor (f c) (omega arith)))

  pub ends : (c : ℕ) → n ≤ c → c ≡ from c
  unfolding from first_from
  ends c h = let e : 0 ≡ n - c = omega arith in ap (first_from (λ a. ltb floor (f a)) c) e
