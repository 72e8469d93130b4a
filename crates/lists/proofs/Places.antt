-- A test of all places is a test of the list laid out there, and of the places that are not in use. Assumes nothing.
use Prim.Native.Nat.{ℕ, zero, suc, ◌+◌, ◌≤◌, ◌<◌}
use mathlib.Core.Path.{◌≡◌, refl, sym, ap, ap₂, ◌∙◌}
use mathlib.Core.Bool.{Bool, true, false, ◌&&◌, not}
use mathlib.Core.List.{List, [], ◌∷◌, ◌++◌}
use mathlib.Core.Logic.{◌⊎◌, inl, inr}
use native.Mathlib.Numerals.{add-one}
use native.Mathlib.Omega.{arith}
use borrow.Author.Tests.{leb-true, le-leb, lt-ltb, le-ltb, not-true}
use lib.Dec.{leb}
use lib.ListN.{length, get_or, take, drop, length-take}
use lib.Seq.{get_or-take, drop-drop}
use Rattle.std.specs.List.{list_all, enumerate_from}
use Rattle.lists.specs.Tests.{some, every, every_from, distinct, all_below}
use Rattle.lists.specs.Arrays.{laid, rest}
use Rattle.lists.specs.Places.{place, places, rest_free, alone, limited}
use Rattle.lists.proofs.Bools.{and_left, and_right, and-true, and-false, or-false, same_test, below_or}
use Rattle.lists.proofs.Tests.{every-at, every_drop, drop-every, every-snoc, distinct-at, distinct_from, distinct_snoc, from_each, from_at, below_at, below_all}
use Rattle.lists.proofs.Arrays.{laid-take, length-snoc}

-- ---- a list of limited length, its elements fit and not there twice
pub record Limited {A : Type 0} (fit : A → Bool) (same : A → A → Bool) (n : ℕ) (xs : List A) : Type 0 where
  pub few : length xs ≤ n
  pub inside : every fit xs ≡ true
  pub once : distinct same xs ≡ true

module _ {A : Type 0} (fit : A → Bool) (same : A → A → Bool) (n : ℕ) where
  pub limited-parts : (xs : List A) → limited fit same n xs ≡ true → Limited fit same n xs
  unfolding limited
  limited-parts xs h =
      let a = and_left (leb (length xs) n && every fit xs) (distinct same xs) h in
      record {
        few = leb-true (length xs) n (and_left (leb (length xs) n) (every fit xs) a);
        inside = and_right (leb (length xs) n) (every fit xs) a;
        once = and_right (leb (length xs) n && every fit xs) (distinct same xs) h;
      }

  pub limited-whole : (xs : List A) → Limited fit same n xs → limited fit same n xs ≡ true
  unfolding limited
  limited-whole xs p = rw (le-leb (length xs) n p.few, p.inside) p.once

  pub limited-none : limited fit same n [] ≡ true
  unfolding limited every distinct
  limited-none = rw (le-leb 0 n (omega arith))

  -- an element that is fit and new goes to the end
  pub limited-snoc : ((a b : A) → same a b ≡ same b a) → (xs : List A) (x : A) → limited fit same n xs ≡ true
      → fit x ≡ true → length xs < n → some (same x) xs ≡ false → limited fit same n (xs ++ (x ∷ [])) ≡ true
  limited-snoc swap xs x h f l e =
      let p = limited-parts xs h in
      limited-whole (xs ++ (x ∷ []))
      (record {
        few = rw length-snoc (omega arith);
        inside = every-snoc fit xs x p.inside f;
        once = distinct_snoc same swap xs x p.once e;
      })

-- ---- places in use and not
module _ (k : ℕ) (used free : ℕ → Bool) where
  place-used : (i : ℕ) → i < k → place k used free i ≡ true → used i ≡ true
  place-used i l h = or-false (used i) (rw (lt-ltb i k l) at h)

  place-free : (i : ℕ) → k ≤ i → place k used free i ≡ true → free i ≡ true
  place-free i l h = rw (le-ltb i k l) at h

  place-both : ((i : ℕ) → i < k → used i ≡ true) → (i : ℕ) → (k ≤ i → free i ≡ true) → place k used free i ≡ true
  place-both h i g = go (below_or i k)
    where
      go : (i < k) ⊎ (k ≤ i) → place k used free i ≡ true
      go (inl l) = rw (lt-ltb i k l, h i l)
      go (inr l) = rw (le-ltb i k l, g l)

module _ {A : Type 0} (d : A) (z : A → Bool) (n k : ℕ) (xs : List A) (e : length xs ≡ n) where
  -- the test of all places is that of the places in use, and of the others
  pub places-are : (used : ℕ → Bool) → places n k used (λ i. z (get_or xs i d)) ≡ rest_free z n k xs && all_below used k
  places-are used = same_test _ _ forth back
    where
      p : ℕ → Bool
      p = place k used (λ i. z (get_or xs i d))

      forth : all_below p n && leb k n ≡ true → rest_free z n k xs && all_below used k ≡ true
      forth h =
          let all = and_left (all_below p n) (leb k n) h in
          let few = and_right (all_below p n) (leb k n) h in
          let free = every_drop d z xs k (λ i a b. place-free k used (λ i. z (get_or xs i d)) i a (below_at p n i all (omega arith))) in
          let in_use = below_all used k (λ i b. place-used k used (λ i. z (get_or xs i d)) i b (below_at p n i all (omega (arith, leb-true k n few)))) in
          rw (few, free) in_use

      back : rest_free z n k xs && all_below used k ≡ true → all_below p n && leb k n ≡ true
      back h =
          let a = and_left (rest_free z n k xs) (all_below used k) h in
          let in_use = and_right (rest_free z n k xs) (all_below used k) h in
          let few = and_left (leb k n) (every z (drop k xs)) a in
          let free = drop-every d z xs k (and_right (leb k n) (every z (drop k xs)) a) in
          rw (below_all p n (λ i b. place-both k used (λ i. z (get_or xs i d)) (λ j l. below_at used k j in_use l) i (λ l. free i l (omega arith)))) few

  pub free-few : rest_free z n k xs ≡ true → k ≤ n
  free-few h = leb-true k n (and_left (leb k n) (every z (drop k xs)) h)

  pub taken-length : k ≤ n → length (take k xs) ≡ k
  taken-length h = omega (arith, length-take k xs)

  taken_at : k ≤ n → (i : ℕ) → i < k → get_or (take k xs) i d ≡ get_or xs i d
  taken_at h i b = get_or-take k xs i d b

  -- two tests of the list in use, one place by place, that agree where no more are in use than there are
  places-list : (used : ℕ → Bool) (test : Bool) → (k ≤ n → all_below used k ≡ true → test ≡ true) → (k ≤ n → test ≡ true → all_below used k ≡ true)
      → places n k used (λ i. z (get_or xs i d)) ≡ rest_free z n k xs && test
  places-list used test f g = places-are used ∙ same_test _ _ forth back
    where
      free : Bool
      free = rest_free z n k xs

      forth : free && all_below used k ≡ true → free && test ≡ true
      forth h =
          let a = and_left free (all_below used k) h in
          and-true free test a (f (free-few a) (and_right free (all_below used k) h))

      back : free && test ≡ true → free && all_below used k ≡ true
      back h =
          let a = and_left free test h in
          and-true free (all_below used k) a (g (free-few a) (and_right free test h))

  -- each in use is fit and not there again further on: the list is limited
  pub places-limited : (fit : A → Bool) (same : A → A → Bool)
      → places n k (alone d fit same xs k) (λ i. z (get_or xs i d)) ≡ rest_free z n k xs && limited fit same n (take k xs)
  unfolding rest
  places-limited fit same = places-list (alone d fit same xs k) (limited fit same n (take k xs)) forth back
    where
      forth : k ≤ n → all_below (alone d fit same xs k) k ≡ true → limited fit same n (take k xs) ≡ true
      forth few h =
          let at : (i : ℕ) → i < length (take k xs) → alone d fit same xs k i ≡ true = λ i b. below_at (alone d fit same xs k) k i h (omega (arith, taken-length few)) in
          let same-element : (i : ℕ) → i < length (take k xs) → get_or (take k xs) i d ≡ get_or xs i d = λ i b. taken_at few i (omega (arith, taken-length few)) in
          limited-whole fit same n (take k xs)
          (record {
            few = omega (arith, taken-length few);
            inside = every_drop d fit (take k xs) 0 (λ i a b. rw (same-element i b) (and_left _ _ (at i b)));
            once = distinct_from d same (take k xs) (λ i b. rw (same-element i b, ← add-one i) (not-true _ (and_right (fit (get_or xs i d)) _ (at i b))));
          })

      back : k ≤ n → limited fit same n (take k xs) ≡ true → all_below (alone d fit same xs k) k ≡ true
      back few h =
          let p = limited-parts fit same n (take k xs) h in
          below_all (alone d fit same xs k) k (λ i b.
          let j : i < length (take k xs) = omega (arith, taken-length few) in
          rw (← (taken_at few i b), every-at fit d (take k xs) i p.inside j, distinct-at same d (take k xs) i p.once j))

  -- each in use passes the test of its number: so does the list
  pub places-numbered : (fit : ℕ → A → Bool)
      → places n k (λ i. fit (suc i) (get_or xs i d)) (λ i. z (get_or xs i d)) ≡ rest_free z n k xs && (leb (length (take k xs)) n && every_from fit 1 (take k xs))
  places-numbered fit = places-list (λ i. fit (suc i) (get_or xs i d)) (leb (length (take k xs)) n && every_from fit 1 (take k xs)) forth back
    where
      forth : k ≤ n → all_below (λ i. fit (suc i) (get_or xs i d)) k ≡ true → leb (length (take k xs)) n && every_from fit 1 (take k xs) ≡ true
      forth few h =
          let l = taken-length few in
          rw (le-leb (length (take k xs)) n (omega arith))
          (from_each d fit 1 (take k xs) (λ i b m e.
          let s : m ≡ suc i = omega arith in
          rw (s, taken_at few i (omega arith)) (below_at (λ i. fit (suc i) (get_or xs i d)) k i h (omega arith))))

      back : k ≤ n → leb (length (take k xs)) n && every_from fit 1 (take k xs) ≡ true → all_below (λ i. fit (suc i) (get_or xs i d)) k ≡ true
      back few h =
          let l = taken-length few in
          let q = and_right (leb (length (take k xs)) n) (every_from fit 1 (take k xs)) h in
          below_all (λ i. fit (suc i) (get_or xs i d)) k (λ i b. rw (← (taken_at few i b)) (from_at d fit 1 (take k xs) q i (omega arith) (suc i) (omega arith)))

-- ---- the same tests one after the other, as code makes them: of the count, of the list in use, of the places not in use
free-last : (p z : Bool) → z && p ≡ p && z
free-last true true = refl
free-last true false = refl
free-last false z = and-false z

module _ {A : Type 0} (z : A → Bool) (n k : ℕ) (xs : List A) where
  -- a list in use is as short as its count
  few-taken : leb k n ≡ true → leb (length (take k xs)) n ≡ true
  few-taken h = le-leb (length (take k xs)) n (omega (arith, leb-true k n h, length-take k xs))

  pub limited_tested : (fit : A → Bool) (same : A → A → Bool)
      → rest_free z n k xs && limited fit same n (take k xs) ≡ leb k n && every fit (take k xs) && distinct same (take k xs) && every z (drop k xs)
  unfolding limited
  limited_tested fit same = go (leb k n) refl
    where
      test : Bool
      test = every fit (take k xs) && distinct same (take k xs)

      go : (b : Bool) → leb k n ≡ b → rest_free z n k xs && limited fit same n (take k xs) ≡ b && every fit (take k xs) && distinct same (take k xs) && every z (drop k xs)
      go true e = rw (e, few-taken e) (free-last test (every z (drop k xs)))
      go false e = rw e

  pub numbered_tested : (fit : ℕ → A → Bool)
      → rest_free z n k xs && (leb (length (take k xs)) n && every_from fit 1 (take k xs)) ≡ leb k n && every_from fit 1 (take k xs) && every z (drop k xs)
  numbered_tested fit = go (leb k n) refl
    where
      go : (b : Bool) → leb k n ≡ b
          → rest_free z n k xs && (leb (length (take k xs)) n && every_from fit 1 (take k xs)) ≡ b && every_from fit 1 (take k xs) && every z (drop k xs)
      go true e = rw (e, few-taken e) (free-last (every_from fit 1 (take k xs)) (every z (drop k xs)))
      go false e = rw e

-- no element is there twice: none of those further on is the same
module _ {A : Type 0} (r : A → A → Bool) where
  later-distinct : (all : List A) (j : ℕ) (xs : List A) → drop j all ≡ xs → list_all (λ y. not (some (r y.1) (drop (y.0 + 1) all))) (enumerate_from j xs) ≡ distinct r xs
  unfolding distinct
  later-distinct all j [] h = refl
  later-distinct all j (x ∷ xs) h =
      let after : drop (j + 1) all ≡ xs = sym (drop-drop 1 j all) ∙ ap (drop 1) h in
      ap₂ ◌&&◌ (ap (λ ys. not (some (r x) ys)) after) (later-distinct all (j + 1) xs after)

  pub is-distinct : (xs : List A) → list_all (λ y. not (some (r y.1) (drop (y.0 + 1) xs))) (enumerate_from 0 xs) ≡ distinct r xs
  is-distinct xs = later-distinct xs 0 xs refl

-- ---- an array is a list laid out exactly if its unused places pass
module _ {A : Type 0} (d : A) (z : A → Bool) (pass : z d ≡ true) (only : (a : A) → z a ≡ true → a ≡ d) where
  blank : (n : ℕ) → every z (laid d n []) ≡ true
  unfolding laid every
  blank zero = refl
  blank (suc n) = rw pass (blank n)

  rest-blank : (n : ℕ) (xs : List A) → every z (drop (length xs) (laid d n xs)) ≡ true
  unfolding laid every
  rest-blank n [] = blank n
  rest-blank zero (x ∷ xs) = refl
  rest-blank (suc n) (x ∷ xs) = rest-blank n xs

  pub laid-free : (n : ℕ) (xs : List A) → length xs ≤ n → rest_free z n (length xs) (laid d n xs) ≡ true
  laid-free n xs h = rw (le-leb (length xs) n h) (rest-blank n xs)

  pub free-laid : (n k : ℕ) (xs : List A) → length xs ≡ n → rest_free z n k xs ≡ true → xs ≡ laid d n (take k xs)
  free-laid n k xs e h =
      laid-take d n xs k e (λ i a b. only (get_or xs i d) (drop-every d z xs k (and_right (leb k n) (every z (drop k xs)) h) i a (omega arith)))
