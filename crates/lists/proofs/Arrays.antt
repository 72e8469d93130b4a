-- A list in an array: its length, and what appending, setting one, reading and taking back do. Assumes nothing.
use Prim.Native.Nat.{ℕ, zero, suc, ◌+◌, ◌-◌, ◌≤◌, ◌<◌, min, zero-le, suc-le-suc}
use mathlib.Core.Path.{◌≡◌, refl, sym, ap, ap₂, ◌∙◌}
use mathlib.Core.List.{List, [], ◌∷◌, ◌++◌, map}
use mathlib.Core.Logic.{◌⊎◌, inl, inr}
use native.Mathlib.Nat.{le_of_suc-le-suc, not-suc-le-zero}
use native.Mathlib.Numerals.{add-one}
use native.Mathlib.Omega.{arith}
use lib.ListN.{length, take, drop, get_or, set, length-map, length-append, length-take}
use Rattle.std.proofs.lemmas.List.{drop-take, take_all, drop_all}
use Rattle.lists.specs.Arrays.{laid, rest}
use Rattle.lists.proofs.Bools.{below_or}

-- the length of an array of structs that is a struct's field, from what owning the struct tells: `search (needs, of_map)`
pub of_map : (X Y : Type 0) (f : X → Y) (l : List X) (n : ℕ) → length (map f l) ≡ n → length l ≡ n
of_map X Y f l n e = sym (length-map l f) ∙ e

module _ {A : Type 0} where
  pub length-snoc : (l : List A) (x : A) → length (l ++ (x ∷ [])) ≡ length l + 1
  length-snoc l x = length-append l (x ∷ [])

  -- ---- what is left of a prefix: nothing at its end, nothing past the array, else the element and what is left after it
  drop-none : (i : ℕ) → ◌≡◌ {A = List A} (drop i []) []
  drop-none zero = refl
  drop-none (suc i) = refl

  pub rest_end : (xs : List A) (n i : ℕ) → n ≤ i → rest xs n i ≡ []
  unfolding rest
  rest_end xs zero i h = drop-none i
  rest_end [] (suc n) i h = drop-none i
  rest_end (x ∷ xs) (suc n) zero h = absurd (not-suc-le-zero h)
  rest_end (x ∷ xs) (suc n) (suc i) h = rest_end xs n i (le_of_suc-le-suc h)

  pub rest-past : (xs : List A) (n i : ℕ) → length xs ≤ i → rest xs n i ≡ []
  unfolding rest
  rest-past xs zero i h = drop-none i
  rest-past [] (suc n) i h = drop-none i
  rest-past (x ∷ xs) (suc n) zero h = absurd (not-suc-le-zero h)
  rest-past (x ∷ xs) (suc n) (suc i) h = rest-past xs n i (le_of_suc-le-suc h)

  rest-suc : (d : A) (xs : List A) (n i : ℕ) → i < n → i < length xs → rest xs n i ≡ get_or xs i d ∷ rest xs n (suc i)
  unfolding rest
  rest-suc d xs zero i h l = absurd (not-suc-le-zero h)
  rest-suc d [] (suc n) i h l = absurd (not-suc-le-zero l)
  rest-suc d (x ∷ xs) (suc n) zero h l = refl
  rest-suc d (x ∷ xs) (suc n) (suc i) h l = rest-suc d xs n i (le_of_suc-le-suc h) (le_of_suc-le-suc l)

  pub rest-cons : (d : A) (xs : List A) (n i : ℕ) → i < n → i < length xs → rest xs n i ≡ get_or xs i d ∷ rest xs n (i + 1)
  rest-cons d xs n i h l = rw add-one (rest-suc d xs n i h l)

  -- ---- a part of an array whose ends are held inside it is what is left of a prefix
  take-held : (xs : List A) (n e : ℕ) → e ≡ min n (length xs) → take e xs ≡ take n xs
  take-held xs n e h = go (below_or n (length xs))
    where
      go : (n < length xs) ⊎ (length xs ≤ n) → take e xs ≡ take n xs
      go (inl l) = let same : e ≡ n = omega (arith, h) in rw same
      go (inr l) = take_all e xs (omega (arith, h)) ∙ sym (take_all n xs l)

  pub rest-held : (xs : List A) (n i e s : ℕ) → e ≡ min n (length xs) → s ≡ min i e → take (e - s) (drop s xs) ≡ rest xs n i
  unfolding rest
  rest-held xs n i e s h g = sym (drop-take s (e - s) xs) ∙ (ap (λ m. drop s (take m xs)) whole ∙ (ap (drop s) (take-held xs n e h) ∙ go (below_or i e)))
    where
      whole : s + (e - s) ≡ e
      whole = omega (arith, g)

      go : (i < e) ⊎ (e ≤ i) → drop s (take n xs) ≡ drop i (take n xs)
      go (inl l) = let same : s ≡ i = omega (arith, g) in rw same
      go (inr l) = drop_all s (take n xs) (omega (arith, g, h, length-take n xs)) ∙ sym (drop_all i (take n xs) (omega (arith, h, length-take n xs)))

  pub drop-held : (xs : List A) (n s : ℕ) → s ≡ min n (length xs) → drop s xs ≡ drop n xs
  drop-held xs n s h = go (below_or n (length xs))
    where
      go : (n < length xs) ⊎ (length xs ≤ n) → drop s xs ≡ drop n xs
      go (inl l) = let same : s ≡ n = omega (arith, h) in rw same
      go (inr l) = drop_all s xs (omega (arith, h)) ∙ sym (drop_all n xs l)

  -- ---- what holds of each element, and of d, holds at every place
  pub at_every : (P : ℕ → A → Type 0) (d : A) (xs : List A) → ((i : ℕ) → P i d) → ((i : ℕ) → i < length xs → P i (get_or xs i d)) → (i : ℕ) → P i (get_or xs i d)
  at_every P d [] z h i = z i
  at_every P d (x ∷ xs) z h zero = h 0 (omega arith)
  at_every P d (x ∷ xs) z h (suc i) = at_every (λ j. P (suc j)) d xs (λ j. z (suc j)) (λ j b. h (suc j) (suc-le-suc b)) i

  -- ---- a list laid out
  pub length-laid : (d : A) (n : ℕ) (xs : List A) → length (laid d n xs) ≡ n
  unfolding laid
  length-laid d zero xs = refl
  length-laid d (suc n) [] = ap suc (length-laid d n [])
  length-laid d (suc n) (x ∷ xs) = ap suc (length-laid d n xs)

  -- it is taken back
  pub take-laid : (d : A) (n : ℕ) (xs : List A) → length xs ≤ n → take (length xs) (laid d n xs) ≡ xs
  unfolding laid
  take-laid d n [] h = refl
  take-laid d zero (x ∷ xs) h = absurd (not-suc-le-zero h)
  take-laid d (suc n) (x ∷ xs) h = ap (λ (l : List A). x ∷ l) (take-laid d n xs (le_of_suc-le-suc h))

  -- appending writes the next place
  pub laid-snoc : (d : A) (n : ℕ) (xs : List A) (x : A) → length xs < n → set (laid d n xs) (length xs) x ≡ laid d n (xs ++ (x ∷ []))
  unfolding laid
  laid-snoc d zero xs x h = absurd (not-suc-le-zero h)
  laid-snoc d (suc n) [] x h = refl
  laid-snoc d (suc n) (y ∷ xs) x h = ap (λ (l : List A). y ∷ l) (laid-snoc d n xs x (le_of_suc-le-suc h))

  -- setting one writes its place
  pub laid-set : (d : A) (n : ℕ) (xs : List A) (i : ℕ) (x : A) → i < length xs → length xs ≤ n → set (laid d n xs) i x ≡ laid d n (set xs i x)
  unfolding laid
  laid-set d n [] i x h l = absurd (not-suc-le-zero h)
  laid-set d zero (y ∷ xs) i x h l = absurd (not-suc-le-zero l)
  laid-set d (suc n) (y ∷ xs) zero x h l = refl
  laid-set d (suc n) (y ∷ xs) (suc i) x h l =
      ap (λ (l : List A). y ∷ l) (laid-set d n xs i x (le_of_suc-le-suc h) (le_of_suc-le-suc l))

  -- reading one reads its place
  pub get_or-laid : (d : A) (n : ℕ) (xs : List A) (i : ℕ) → i < length xs → length xs ≤ n → get_or (laid d n xs) i d ≡ get_or xs i d
  unfolding laid
  get_or-laid d n [] i h l = absurd (not-suc-le-zero h)
  get_or-laid d zero (y ∷ xs) i h l = absurd (not-suc-le-zero l)
  get_or-laid d (suc n) (y ∷ xs) zero h l = refl
  get_or-laid d (suc n) (y ∷ xs) (suc i) h l = get_or-laid d n xs i (le_of_suc-le-suc h) (le_of_suc-le-suc l)

  -- d at the end changes no reading
  pub get_or-end : (d : A) (xs : List A) (i : ℕ) → get_or (xs ++ (d ∷ [])) i d ≡ get_or xs i d
  get_or-end d [] zero = refl
  get_or-end d [] (suc i) = refl
  get_or-end d (x ∷ xs) zero = refl
  get_or-end d (x ∷ xs) (suc i) = get_or-end d xs i

  -- one taken out: those behind it come one place down, and the last place holds d. Each is taken to another, d to itself, and those before it are kept
  laid_end : (d : A) (n : ℕ) (xs : List A) → length xs ≤ n → laid d n xs ++ (d ∷ []) ≡ laid d (suc n) xs
  unfolding laid
  laid_end d zero [] h = refl
  laid_end d zero (x ∷ xs) h = absurd (not-suc-le-zero h)
  laid_end d (suc n) [] h = ap (λ (l : List A). d ∷ l) (laid_end d n [] zero-le)
  laid_end d (suc n) (x ∷ xs) h = ap (λ (l : List A). x ∷ l) (laid_end d n xs (le_of_suc-le-suc h))

  map-laid : (f : A → A) (d : A) → f d ≡ d → (n : ℕ) (xs : List A) → map f (laid d n xs) ≡ laid d n (map f xs)
  unfolding laid
  map-laid f d e zero xs = refl
  map-laid f d e (suc n) [] = ap₂ ◌∷◌ e (map-laid f d e n [])
  map-laid f d e (suc n) (x ∷ xs) = ap (λ (l : List A). f x ∷ l) (map-laid f d e n xs)

  pub laid-without : (f : A → A) (d : A) → f d ≡ d → (n j : ℕ) (xs : List A) → j < length xs → length xs ≤ n → ((i : ℕ) → i < j → f (get_or xs i d) ≡ get_or xs i d)
      → take j (laid d n xs) ++ (map f (drop (suc j) (laid d n xs)) ++ (d ∷ [])) ≡ laid d n (map f (take j xs ++ drop (suc j) xs))
  unfolding laid
  laid-without f d e n j [] b h kept = absurd (not-suc-le-zero b)
  laid-without f d e zero j (x ∷ xs) b h kept = absurd (not-suc-le-zero h)
  laid-without f d e (suc n) zero (x ∷ xs) b h kept =
      ap (λ (l : List A). l ++ (d ∷ [])) (map-laid f d e n xs) ∙ laid_end d n (map f xs) (rw (length-map xs f) (le_of_suc-le-suc h))
  laid-without f d e (suc n) (suc j) (x ∷ xs) b h kept =
      ap₂ ◌∷◌ (sym (kept 0 (omega arith))) (laid-without f d e n j xs (le_of_suc-le-suc b) (le_of_suc-le-suc h) (λ i l. kept (suc i) (suc-le-suc l)))

  -- an array whose places from k on hold d is its first k elements, laid out
  pub laid-take : (d : A) (n : ℕ) (xs : List A) (k : ℕ) → length xs ≡ n
      → ((i : ℕ) → k ≤ i → i < n → get_or xs i d ≡ d) → xs ≡ laid d n (take k xs)
  unfolding laid
  laid-take d zero [] zero e h = refl
  laid-take d zero [] (suc k) e h = refl
  laid-take d zero (x ∷ xs) k e h = absurd (omega arith)
  laid-take d (suc n) [] k e h = absurd (omega arith)
  laid-take d (suc n) (x ∷ xs) zero e h =
      ap₂ ◌∷◌ (h 0 zero-le (omega arith)) (laid-take d n xs zero (omega arith) (λ i l b. h (suc i) zero-le (suc-le-suc b)))
  laid-take d (suc n) (x ∷ xs) (suc k) e h =
      ap (λ (l : List A). x ∷ l) (laid-take d n xs k (omega arith) (λ i l b. h (suc i) (suc-le-suc l) (suc-le-suc b)))
