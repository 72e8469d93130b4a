-- Tests of lists: a turn of a loop that tests, one element more at the end, one place, one element among others. Assumes nothing.
use Prim.Native.Nat.{ℕ, zero, suc, ◌+◌, ◌-◌, ◌≤◌, ◌<◌}
use mathlib.Core.Path.{◌≡◌, refl, sym, ap, ◌∙◌}
use mathlib.Core.Bool.{Bool, true, false, ◌&&◌, ◌||◌, not}
use mathlib.Core.List.{List, [], ◌∷◌, ◌++◌, map}
use mathlib.Core.Logic.{⊎_elim}
use native.Mathlib.Nat.{le_of_suc-le-suc, not-suc-le-zero, eq-or-lt_of_le}
use native.Mathlib.Numerals.{add-one}
use native.Mathlib.Omega.{arith}
use borrow.Author.Tests.{not-true}
use lib.ListN.{length, take, drop, get_or, set, length-drop}
use lib.Seq.{get_or-drop}
use Rattle.lists.specs.Tests.{pick, some, every, every_from, distinct, first_from, all_below}
use Rattle.lists.specs.Arrays.{rest}
use Rattle.lists.proofs.Bools.{and-true, and_left, and_right, and-false, or_left, or_right}
use Rattle.lists.proofs.Arrays.{rest_end, rest-past, rest-cons}

module _ {A : Type 0} where
  -- ---- a loop that looks for an element that passes a test, among the first n of an array of m places: what is left from place i on decides.
  -- It is at the end of those, past the array, or at an element, which passes or does not.
  module _ (p : A → Bool) (d : A) (xs : List A) (n m i : ℕ) (len : length xs ≡ m) {found : Bool} (left : found ≡ some p (rest xs n i)) where
    pub look-end : n ≤ i → false ≡ found
    unfolding some
    look-end h = sym (left ∙ ap (some p) (rest_end xs n i h))

    pub look-past : m ≤ i → false ≡ found
    unfolding some
    look-past h = sym (left ∙ ap (some p) (rest-past xs n i (omega arith)))

    module _ (h : i < n) (b : i < m) {passes : Bool} (tested : passes ≡ p (get_or xs i d)) where
      here : found ≡ p (get_or xs i d) || some p (rest xs n (i + 1))
      unfolding some
      here = left ∙ ap (some p) (rest-cons d xs n i h (omega arith))

      pub look_hit : passes ≡ true → true ≡ found
      look_hit e = sym (here ∙ rw (← tested, e))

      pub look-miss : passes ≡ false → found ≡ some p (rest xs n (i + 1))
      look-miss e = here ∙ rw (← tested, e)

  -- ---- one element more at the end
  pub some-snoc : (p : A → Bool) (l : List A) (x : A) → some p l ≡ false → p x ≡ false → some p (l ++ (x ∷ [])) ≡ false
  unfolding some
  some-snoc p [] x h e = rw e
  some-snoc p (y ∷ l) x h e = rw (or_left (p y) (some p l) h) (some-snoc p l x (or_right (p y) (some p l) h) e)

  pub every_append : (p : A → Bool) (xs ys : List A) → every p xs ≡ true → every p ys ≡ true → every p (xs ++ ys) ≡ true
  unfolding every
  every_append p [] ys e f = f
  every_append p (x ∷ xs) ys e f = and-true (p x) (every p (xs ++ ys)) (and_left (p x) (every p xs) e) (every_append p xs ys (and_right (p x) (every p xs) e) f)

  pub every-snoc : (p : A → Bool) (l : List A) (x : A) → every p l ≡ true → p x ≡ true → every p (l ++ (x ∷ [])) ≡ true
  unfolding every
  every-snoc p [] x h e = rw e
  every-snoc p (y ∷ l) x h e = rw (and_left (p y) (every p l) h) (every-snoc p l x (and_right (p y) (every p l) h) e)

  -- a test of two that does not mind their order
  module _ (r : A → A → Bool) (swap : (a b : A) → r a b ≡ r b a) where
    pub distinct_snoc : (l : List A) (x : A) → distinct r l ≡ true → some (r x) l ≡ false → distinct r (l ++ (x ∷ [])) ≡ true
    unfolding distinct some
    distinct_snoc [] x h e = refl
    distinct_snoc (y ∷ l) x h e =
        let old = and_left (not (some (r y) l)) (distinct r l) h in
        rw (some-snoc (r y) l x (not-true (some (r y) l) old) (swap y x ∙ or_left (r x y) (some (r x) l) e))
        (distinct_snoc l x (and_right (not (some (r y) l)) (distinct r l) h) (or_right (r x y) (some (r x) l) e))

  -- ---- at a place
  pub every-at : (p : A → Bool) (d : A) (l : List A) (i : ℕ) → every p l ≡ true → i < length l → p (get_or l i d) ≡ true
  unfolding every
  every-at p d [] i h b = absurd (not-suc-le-zero b)
  every-at p d (y ∷ l) zero h b = and_left (p y) (every p l) h
  every-at p d (y ∷ l) (suc i) h b = every-at p d l i (and_right (p y) (every p l) h) (le_of_suc-le-suc b)

  -- from place k on, and back
  pub every_drop : (d : A) (p : A → Bool) (xs : List A) (k : ℕ) → ((i : ℕ) → k ≤ i → i < length xs → p (get_or xs i d) ≡ true) → every p (drop k xs) ≡ true
  unfolding every
  every_drop d p [] zero h = refl
  every_drop d p [] (suc k) h = refl
  every_drop d p (x ∷ xs) zero h = rw (h 0 (omega arith) (omega arith)) (every_drop d p xs zero (λ i a b. h (suc i) (omega arith) (omega arith)))
  every_drop d p (x ∷ xs) (suc k) h = every_drop d p xs k (λ i a b. h (suc i) (omega arith) (omega arith))

  pub drop-every : (d : A) (p : A → Bool) (xs : List A) (k : ℕ) → every p (drop k xs) ≡ true → (i : ℕ) → k ≤ i → i < length xs → p (get_or xs i d) ≡ true
  drop-every d p xs k h i a b =
      let e : get_or (drop k xs) (i - k) d ≡ get_or xs i d = get_or-drop k xs (i - k) d ∙ ap (λ (j : ℕ). get_or xs j d) (omega arith) in
      rw (← e) (every-at p d (drop k xs) (i - k) h (omega (arith, length-drop k xs)))

  distinct-suc : (r : A → A → Bool) (d : A) (l : List A) (i : ℕ) → distinct r l ≡ true → i < length l → some (r (get_or l i d)) (drop (suc i) l) ≡ false
  unfolding distinct
  distinct-suc r d [] i h b = absurd (not-suc-le-zero b)
  distinct-suc r d (y ∷ l) zero h b = not-true (some (r y) l) (and_left (not (some (r y) l)) (distinct r l) h)
  distinct-suc r d (y ∷ l) (suc i) h b = distinct-suc r d l i (and_right (not (some (r y) l)) (distinct r l) h) (le_of_suc-le-suc b)

  pub distinct-at : (r : A → A → Bool) (d : A) (l : List A) (i : ℕ) → distinct r l ≡ true → i < length l → some (r (get_or l i d)) (drop (i + 1) l) ≡ false
  distinct-at r d l i h b = rw add-one (distinct-suc r d l i h b)

  pub distinct_from : (d : A) (r : A → A → Bool) (xs : List A) → ((i : ℕ) → i < length xs → some (r (get_or xs i d)) (drop (suc i) xs) ≡ false) → distinct r xs ≡ true
  unfolding distinct
  distinct_from d r [] h = refl
  distinct_from d r (x ∷ xs) h = rw (h 0 (omega arith)) (distinct_from d r xs (λ i b. h (suc i) (omega arith)))

  -- ---- by number
  pub from_each : (d : A) (p : ℕ → A → Bool) (j : ℕ) (xs : List A) → ((i : ℕ) → i < length xs → (m : ℕ) → m ≡ i + j → p m (get_or xs i d) ≡ true) → every_from p j xs ≡ true
  unfolding every_from
  from_each d p j [] h = refl
  from_each d p j (x ∷ xs) h = rw (h 0 (omega arith) j (omega arith)) (from_each d p (suc j) xs (λ i b m e. h (suc i) (omega arith) m (omega arith)))

  pub from_at : (d : A) (p : ℕ → A → Bool) (j : ℕ) (xs : List A) → every_from p j xs ≡ true → (i : ℕ) → i < length xs → (m : ℕ) → m ≡ i + j → p m (get_or xs i d) ≡ true
  unfolding every_from
  from_at d p j [] h i b m e = absurd (not-suc-le-zero b)
  from_at d p j (x ∷ xs) h zero b m e = let n : m ≡ j = omega arith in rw n (and_left (p j x) (every_from p (suc j) xs) h)
  from_at d p j (x ∷ xs) h (suc i) b m e = from_at d p (suc j) xs (and_right (p j x) (every_from p (suc j) xs) h) i (le_of_suc-le-suc b) m (omega arith)

  at-number : (p : ℕ → A → Bool) (j k : ℕ) (x : A) → j ≡ k → p j x ≡ true → p k x ≡ true
  at-number p j k x e h = rw (← e) h

  pub from-snoc : (p : ℕ → A → Bool) (k : ℕ) (xs : List A) (x : A) → every_from p k xs ≡ true → p (length xs + k) x ≡ true → every_from p k (xs ++ (x ∷ [])) ≡ true
  unfolding every_from
  from-snoc p k [] x h e = rw (at-number p (0 + k) k x (omega arith) e)
  from-snoc p k (y ∷ xs) x h e =
      rw (and_left (p k y) (every_from p (suc k) xs) h)
      (from-snoc p (suc k) xs x (and_right (p k y) (every_from p (suc k) xs) h) (at-number p (length (y ∷ xs) + k) (length xs + suc k) x (omega arith) e))

  -- one element changed so that it still passes
  pub from-set : (d : A) (p : ℕ → A → Bool) (f : A → A) → ((k : ℕ) (x : A) → p k x ≡ true → p k (f x) ≡ true)
      → (k i : ℕ) (xs : List A) → every_from p k xs ≡ true → every_from p k (set xs i (f (get_or xs i d))) ≡ true
  unfolding every_from
  from-set d p f keep k i [] h = h
  from-set d p f keep k zero (x ∷ xs) h =
      rw (keep k x (and_left (p k x) (every_from p (suc k) xs) h)) (and_right (p k x) (every_from p (suc k) xs) h)
  from-set d p f keep k (suc i) (x ∷ xs) h =
      rw (and_left (p k x) (every_from p (suc k) xs) h) (from-set d p f keep (suc k) i xs (and_right (p k x) (every_from p (suc k) xs) h))

  -- the element with number m taken out, those behind it falling by one, and each taken to another: those before it pass as they did, and those
  -- behind it that are not c pass with the number before theirs
  module _ (p : ℕ → A → Bool) (c : A → Bool) (f : A → A) (m : ℕ) (higher : (k : ℕ) (x : A) → m ≤ k → c x ≡ false → p (suc k) x ≡ true → p k (f x) ≡ true) where
    from-fallen : (k : ℕ) (xs : List A) → m ≤ k → every_from p (suc k) xs ≡ true → some c xs ≡ false → every_from p k (map f xs) ≡ true
    unfolding every_from some
    from-fallen k [] b h e = refl
    from-fallen k (x ∷ xs) b h e =
        rw (higher k x b (or_left (c x) (some c xs) e) (and_left (p (suc k) x) (every_from p (suc (suc k)) xs) h))
        (from-fallen (suc k) xs (omega arith) (and_right (p (suc k) x) (every_from p (suc (suc k)) xs) h) (or_right (c x) (some c xs) e))

    pub from-without : ((k : ℕ) (x : A) → k < m → p k x ≡ true → p k (f x) ≡ true)
        → (k j : ℕ) (xs : List A) → j + k ≡ m → every_from p k xs ≡ true → some c xs ≡ false → every_from p k (map f (take j xs ++ drop (suc j) xs)) ≡ true
    unfolding every_from some
    from-without lower k zero [] at h e = refl
    from-without lower k (suc j) [] at h e = refl
    from-without lower k zero (x ∷ xs) at h e =
        from-fallen k xs (omega arith) (and_right (p k x) (every_from p (suc k) xs) h) (or_right (c x) (some c xs) e)
    from-without lower k (suc j) (x ∷ xs) at h e =
        rw (lower k x (omega arith) (and_left (p k x) (every_from p (suc k) xs) h))
        (from-without lower (suc k) j xs (omega arith) (and_right (p k x) (every_from p (suc k) xs) h) (or_right (c x) (some c xs) e))

  -- ---- an element with others before and behind it
  pub every-mid : (p : A → Bool) (xs : List A) (y : A) (ys : List A) → every p (xs ++ (y ∷ ys)) ≡ true → p y ≡ true
  unfolding every
  every-mid p [] y ys h = and_left (p y) (every p ys) h
  every-mid p (x ∷ xs) y ys h = every-mid p xs y ys (and_right (p x) (every p (xs ++ (y ∷ ys))) h)

  some-mid : (p : A → Bool) (xs : List A) (y : A) (ys : List A) → some p (xs ++ (y ∷ ys)) ≡ false → p y ≡ false
  unfolding some
  some-mid p [] y ys h = or_left (p y) (some p ys) h
  some-mid p (x ∷ xs) y ys h = some-mid p xs y ys (or_right (p x) (some p (xs ++ (y ∷ ys))) h)

  pub from-mid : (p : ℕ → A → Bool) (k : ℕ) (xs : List A) (y : A) (ys : List A) → every_from p k (xs ++ (y ∷ ys)) ≡ true → p (length xs + k) y ≡ true
  unfolding every_from
  from-mid p k [] y ys h = let e : 0 + k ≡ k = omega arith in rw e (and_left (p k y) (every_from p (suc k) ys) h)
  from-mid p k (x ∷ xs) y ys h =
      let e : suc (length xs) + k ≡ length xs + suc k = omega arith in
      rw e (from-mid p (suc k) xs y ys (and_right (p k x) (every_from p (suc k) (xs ++ (y ∷ ys))) h))

  -- none like it stands before it
  pub distinct-mid : (r : A → A → Bool) → ((a b : A) → r a b ≡ r b a) → (xs : List A) (y : A) (ys : List A) → distinct r (xs ++ (y ∷ ys)) ≡ true → some (r y) xs ≡ false
  unfolding distinct some
  distinct-mid r swap [] y ys h = refl
  distinct-mid r swap (x ∷ xs) y ys h =
      let all = xs ++ (y ∷ ys) in
      let new = not-true (some (r x) all) (and_left (not (some (r x) all)) (distinct r all) h) in
      rw (swap y x, some-mid (r x) xs y ys new) (distinct-mid r swap xs y ys (and_right (not (some (r x) all)) (distinct r all) h))

-- ---- a loop that tests the numbers below n
pub below-zero : (p : ℕ → Bool) → all_below p 0 ≡ true
unfolding all_below
below-zero p = refl

pub below_step : (p : ℕ → Bool) (i : ℕ) {b q : Bool} → b ≡ all_below p i → q ≡ p i → b && q ≡ all_below p (i + 1)
unfolding all_below
below_step p i h e = rw (add-one, h, e)

below-fail : (p : ℕ → Bool) (n i : ℕ) → i < n → p i ≡ false → all_below p n ≡ false
unfolding all_below
below-fail p zero i h e = absurd (not-suc-le-zero h)
below-fail p (suc n) i h e =
    ⊎_elim (λ (q : i ≡ n). rw (← q, e) (and-false (all_below p i))) (λ (q : i < n). rw (below-fail p n i q e)) (eq-or-lt_of_le (le_of_suc-le-suc h))

pub below_at : (p : ℕ → Bool) (n i : ℕ) → all_below p n ≡ true → i < n → p i ≡ true
below_at p n i h l = go (p i) refl
  where
    go : (b : Bool) → p i ≡ b → p i ≡ true
    go true e = e
    go false e = let z : true ≡ false = sym h ∙ below-fail p n i l e in e ∙ sym z

pub below_all : (p : ℕ → Bool) (n : ℕ) → ((i : ℕ) → i < n → p i ≡ true) → all_below p n ≡ true
unfolding all_below
below_all p zero h = refl
below_all p (suc n) h = rw (below_all p n (λ i b. h i (omega arith)), h n (omega arith))

-- ---- a test that none passes
pub none_first : {A : Type 0} (p : A → Bool) (x : A) (xs : List A) → some p (x ∷ xs) ≡ false → (p x ≡ false) × (some p xs ≡ false)
unfolding some
none_first p x xs h = (or_left (p x) (some p xs) h, or_right (p x) (some p xs) h)

pub none-at : {A : Type 0} (p : A → Bool) (d : A) → p d ≡ false → (xs : List A) → some p xs ≡ false → (j : ℕ) → p (get_or xs j d) ≡ false
none-at p d e [] h zero = e
none-at p d e [] h (suc j) = e
none-at p d e (x ∷ xs) h zero = (none_first p x xs h).0
none-at p d e (x ∷ xs) h (suc j) = none-at p d e xs (none_first p x xs h).1 j

pub none-drop : {A : Type 0} (p : A → Bool) (xs : List A) → some p xs ≡ false → (j : ℕ) → some p (drop j xs) ≡ false
none-drop p xs h zero = h
none-drop p [] h (suc j) = h
none-drop p (x ∷ xs) h (suc j) = none-drop p xs (none_first p x xs h).1 j

-- ---- the first number that passes a test
-- what it is: of the n numbers from k on those before it do not pass, and it passes where it is one of them
pub record First (p : ℕ → Bool) (k n r : ℕ) : Type 0 where
  pub low : k ≤ r
  pub high : r ≤ k + n
  pub passed : (m : ℕ) → k ≤ m → m < r → p m ≡ false
  pub found : r < k + n → p r ≡ true

pub first-is : (p : ℕ → Bool) (k n : ℕ) → First p k n (first_from p k n)
unfolding first_from
first-is p k zero = record { low = omega arith; high = omega arith; passed = λ m l h. absurd (omega arith); found = λ h. absurd (omega arith) }
first-is p k (suc n) = go (p k) refl (first-is p (suc k) n)
  where
    go : (b : Bool) → p k ≡ b → First p (suc k) n (first_from p (suc k) n) → First p k (suc n) (pick b k (first_from p (suc k) n))
    go true e f = record { low = omega arith; high = omega arith; passed = λ m l h. absurd (omega arith); found = λ h. e }
    go false e f = record {
      low = omega (arith, f.low);
      high = omega (arith, f.high);
      passed = λ m l h. ⊎_elim (λ q. ap p (sym q) ∙ e) (λ q. f.passed m q h) (eq-or-lt_of_le l);
      found = λ h. f.found (omega arith);
    }

-- a loop that looks for it: it is here, or among the numbers after this one
pub first-here : (p : ℕ → Bool) (k n : ℕ) → p k ≡ true → first_from p k n ≡ k
unfolding first_from
first-here p k zero e = refl
first-here p k (suc n) e = rw e

pub first-later : (p : ℕ → Bool) (k n : ℕ) → 0 < n → p k ≡ false → first_from p k n ≡ first_from p (k + 1) (n - 1)
unfolding first_from
first-later p k zero l e = absurd (omega arith)
first-later p k (suc n) l e = let h : suc n - 1 ≡ n = omega arith in rw (e, add-one k, h)

-- tests that agree on these numbers
pub first-agree : (p q : ℕ → Bool) (k n : ℕ) → ((m : ℕ) → m < k + n → p m ≡ q m) → first_from p k n ≡ first_from q k n
unfolding first_from
first-agree p q k zero h = refl
first-agree p q k (suc n) h = rw (h k (omega arith), first-agree p q (suc k) n (λ m l. h m (omega arith)))
