-- What a chain of iterators returns, in the words of specs/Tests. Each lemma takes the test, the call's clause `ran`, the chain proof of std's
-- lemmas/Iterator, and that the closure computes the test. Assumes nothing.
use Prim.Native.Nat.{ℕ, zero, suc, ◌+◌, ◌<◌}
use mathlib.Core.Path.{sym, ap, ap₂, ◌≡◌, refl, ◌∙◌}
use mathlib.Core.Bool.{Bool, true, false, ◌&&◌, ◌||◌, cond}
use mathlib.Core.List.{List, [], ◌∷◌}
use native.Mathlib.Numerals.{add-one}
use lib.ListN.{length, get_or}
use native.Mathlib.Omega.{arith}
use denote.Param.Members.{Mut}
use Rattle.std.specs.Prelude.{Option, Some}
use Rattle.std.specs.Fn.{Called}
use Rattle.std.specs.Iterator.{YieldsThen, Drains}
use Rattle.std.specs.Option.{MatchOption, unwrap_or}
use Rattle.std.specs.List.{FoldsTo, fold, list_any, list_all, range_with_len, enumerate_from, find}
use Rattle.std.proofs.lemmas.Iterator.{YieldsList}
use Rattle.std.proofs.lemmas.Iterator.Consumers.{fold_from_yields_List}
use Rattle.std.proofs.lemmas.Iterator.Search.{any_from_yields_List, all_from_yields_List}
use Rattle.lists.specs.Tests.{some, every, every_from, first_from, all_below, pick}

module _ {A : Type 0} where
  pub some-list_any : (p : A → Bool) (xs : List A) → list_any p xs ≡ some p xs
  unfolding some
  some-list_any p [] = refl
  some-list_any p (x ∷ xs) = rw (some-list_any p xs)

  pub every-list_all : (p : A → Bool) (xs : List A) → list_all p xs ≡ every p xs
  unfolding every
  every-list_all p [] = refl
  every-list_all p (x ∷ xs) = rw (every-list_all p xs)

  -- a fold that keeps whether some element has passed
  some-after : (p : A → Bool) (b : Bool) (xs : List A) → fold (λ found x. found || p x) b xs ≡ b || some p xs
  unfolding some
  some-after p true [] = refl
  some-after p false [] = refl
  some-after p true (x ∷ xs) = some-after p true xs
  some-after p false (x ∷ xs) = some-after p (p x) xs

  pub some-fold : (p : A → Bool) (xs : List A) → fold (λ found x. found || p x) false xs ≡ some p xs
  some-fold p xs = some-after p false xs

  -- and one that keeps whether all have
  every-after : (p : A → Bool) (b : Bool) (xs : List A) → fold (λ kept x. kept && p x) b xs ≡ b && every p xs
  unfolding every
  every-after p true [] = refl
  every-after p false [] = refl
  every-after p true (x ∷ xs) = every-after p (p x) xs
  every-after p false (x ∷ xs) = every-after p false xs

  pub every-fold : (p : A → Bool) (xs : List A) → fold (λ kept x. kept && p x) true xs ≡ every p xs
  every-fold p xs = every-after p true xs

module _ {S A B F : Type 0} {steps : S → Option A → S → Type 0} {v : A → B} {g : Mut F (A × Unit {0}) Bool} {s : S} {all : List B} (test : B → Bool) (u : S) (f : F) (r : Bool) where
  pub some-from_any : (xs : List A) × (o : Option A) × (j : F) × YieldsThen steps s xs o u × FoldsTo (λ p x q. Called g p (x, tt) false q) f xs j × MatchOption o (r ≡ false) (λ x. (r ≡ true) × ((h : F) × Called g j (x, tt) true h))
      → YieldsList steps v s all → ((x : A) (b : Bool) (q : F) → Called g f (x, tt) b q → (q ≡ f) × (b ≡ test (v x))) → r ≡ some test all
  some-from_any ran chain k = any_from_yields_List test u f r ran chain k ∙ some-list_any test all

  pub every-from_all : (xs : List A) × (o : Option A) × (j : F) × YieldsThen steps s xs o u × FoldsTo (λ p x q. Called g p (x, tt) true q) f xs j × MatchOption o (r ≡ true) (λ x. (r ≡ false) × ((h : F) × Called g j (x, tt) false h))
      → YieldsList steps v s all → ((x : A) (b : Bool) (q : F) → Called g f (x, tt) b q → (q ≡ f) × (b ≡ test (v x))) → r ≡ every test all
  every-from_all ran chain k = all_from_yields_List test u f r ran chain k ∙ every-list_all test all

module _ {S A B F : Type 0} {steps : S → Option A → S → Type 0} {v : A → B} {g : Mut F (Bool × (A × Unit {0})) Bool} {s : S} {all : List B} (test : B → Bool) (f : F) (r : Bool) where
  pub some-from_fold : (xs : List A) × (q : F) × Drains steps s xs × FoldsTo {P = F × Bool} (λ a x b. Called g a.0 (a.1, (x, tt)) b.1 b.0) (f, false) xs (q, r)
      → YieldsList steps v s all → ((a : Bool) (x : A) (b : Bool) (q : F) → Called g f (a, (x, tt)) b q → (q ≡ f) × (b ≡ a || test (v x))) → r ≡ some test all
  some-from_fold ran chain k = fold_from_yields_List g (λ found x. found || test x) false r ran chain k ∙ some-fold test all

  pub every-from_fold : (xs : List A) × (q : F) × Drains steps s xs × FoldsTo {P = F × Bool} (λ a x b. Called g a.0 (a.1, (x, tt)) b.1 b.0) (f, true) xs (q, r)
      → YieldsList steps v s all → ((a : Bool) (x : A) (b : Bool) (q : F) → Called g f (a, (x, tt)) b q → (q ≡ f) × (b ≡ a && test (v x))) → r ≡ every test all
  every-from_fold ran chain k = fold_from_yields_List g (λ kept x. kept && test x) true r ran chain k ∙ every-fold test all

-- ---- the numbers below a limit, and elements by their number
and-assoc : (a b c : Bool) → a && (b && c) ≡ (a && b) && c
and-assoc true b c = refl
and-assoc false b c = refl

and-one : (a : Bool) → a && true ≡ a
and-one true = refl
and-one false = refl

module _ (p : ℕ → Bool) where
  below-snoc : (k n j : ℕ) → k + n ≡ j → list_all p (range_with_len k (suc n)) ≡ list_all p (range_with_len k n) && p j
  below-snoc k zero j e = let s : k ≡ j = omega arith in and-one (p k) ∙ ap p s
  below-snoc k (suc n) j e = ap (λ b. p k && b) (below-snoc (k + 1) n j (omega arith)) ∙ and-assoc (p k) (list_all p (range_with_len (k + 1) n)) (p j)

  pub below-list_all : (n : ℕ) → list_all p (range_with_len 0 n) ≡ all_below p n
  unfolding all_below
  below-list_all zero = refl
  below-list_all (suc n) = below-snoc 0 n n (omega arith) ∙ ap (λ b. b && p n) (below-list_all n)

  found_first : (k m : ℕ) (b : Bool) (o : Option ℕ) {f : ℕ} → unwrap_or o m ≡ f → unwrap_or (cond b (Some k) o) m ≡ pick b k f
  found_first k m true o e = refl
  found_first k m false o e = e

  first_at : (k n m : ℕ) → k + n ≡ m → unwrap_or (find p (range_with_len k n)) m ≡ first_from p k n
  unfolding first_from
  first_at k zero m h = omega arith
  first_at k (suc n) m h =
      found_first k m (p k) (find p (range_with_len (k + 1) n)) (rw add-one (first_at (suc k) n m (omega arith)))

  pub first_from-find : (k n m : ℕ) (r : Option ℕ) → k + n ≡ m → r ≡ find p (range_with_len k n) → unwrap_or r m ≡ first_from p k n
  first_from-find k n m r h e = ap (λ (o : Option ℕ). unwrap_or o m) e ∙ first_at k n m h

module _ {A : Type 0} where
  pub from-list_all : (p : ℕ → A → Bool) (j k i : ℕ) (xs : List A) → j + k ≡ i → list_all (λ y. p (y.0 + k) y.1) (enumerate_from j xs) ≡ every_from p i xs
  unfolding every_from
  from-list_all p j k i [] h = refl
  from-list_all p j k i (x ∷ xs) h = ap₂ ◌&&◌ (ap (λ (n : ℕ). p n x) h) (from-list_all p (j + 1) k (suc i) xs (omega arith))

  -- the places of an array, each element with its place
  places_so : (d : A) (p : ℕ → A → Bool) (q : ℕ → Bool) (j : ℕ) (xs : List A) → ((i : ℕ) → i < length xs → (m : ℕ) → m ≡ i + j → p m (get_or xs i d) ≡ q m)
      → list_all (λ y. p y.0 y.1) (enumerate_from j xs) ≡ list_all q (range_with_len j (length xs))
  places_so d p q j [] h = refl
  places_so d p q j (x ∷ xs) h = ap₂ ◌&&◌ (h 0 (omega arith) j (omega arith)) (places_so d p q (j + 1) xs (λ i b m e. h (suc i) (omega arith) m (omega arith)))

  pub below-enumerate : (d : A) (p : ℕ → A → Bool) (xs : List A) (n : ℕ) → length xs ≡ n → list_all (λ y. p y.0 y.1) (enumerate_from 0 xs) ≡ all_below (λ i. p i (get_or xs i d)) n
  below-enumerate d p xs n len =
      places_so d p (λ i. p i (get_or xs i d)) 0 xs (λ i b m e. let s : m ≡ i = omega arith in ap (λ (k : ℕ). p m (get_or xs k d)) (sym s))
      ∙ below-list_all (λ i. p i (get_or xs i d)) (length xs) ∙ ap (all_below (λ i. p i (get_or xs i d))) len
