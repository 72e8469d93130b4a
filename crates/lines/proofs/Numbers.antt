-- The loops that read numbers find what the fields hold. Assumes nothing.
use Prim.Native.Nat.{ℕ, suc, ◌+◌, ◌-◌, ◌*◌, ◌^◌, ◌≤◌, ◌<◌}
use mathlib.Core.Path.{◌≡◌, refl, sym, ap, ap₂, ◌∙◌}
use mathlib.Core.Bool.{Bool, true, false, ◌&&◌}
use mathlib.Core.List.{List, [], ◌∷◌, ◌++◌, map, append-nil}
use native.Mathlib.Nat.{zero-add, pow-suc, pow-le-pow_right}
use native.Mathlib.Numerals.{add-one}
use native.Mathlib.Omega.{arith}
use borrow.Author.Tests.{le-leb, lt-leb, lt-ltb, le-ltb, ltb-true, ltb-false}
use lib.Dec.{leb, ltb, lit<}
use lib.ListN.{length, set, drop, get_or, replicate}
use lib.Seq.{append_snoc}
use Rattle.std.proofs.Common.{Option, None}
use Rattle.lists.specs.Tests.{pick, every}
use Rattle.lists.specs.Arrays.{laid}
use Rattle.lists.proofs.Bools.{and_left, and_right, and-false}
use Rattle.lists.proofs.Arrays.{laid-snoc, length-snoc}
use Rattle.lines.specs.declared.reading.Numbers.{Numbers}
use Rattle.lines.specs.Text.{comma, nought}
use Rattle.lines.specs.Grammar.{on_first, fields, most_digits, is_digit, is_number, value_from, value}
use Rattle.lines.specs.Reading.{fields_after, most_numbers, may_follow, some_numbers, numbers_in}
use Rattle.lines.proofs.Decimal.{digit-range}
use Rattle.lines.proofs.Fields.{Cons, cons, fields-cons, fields-end, fields-comma, fields-byte}

-- ---- a field, with d digits read so far: may it go on so to its end?
good : ℕ → List ℕ → Bool
good d [] = ltb 0 d
good d (b ∷ bs) = may_follow d b && good (d + 1) bs

-- it may if there are one to six digits in all, and nothing else
good-on : (d : ℕ) (f : List ℕ) → d ≤ most_digits → good d f ≡ leb 1 (d + length f) && leb (d + length f) most_digits && every is_digit f
unfolding good every
good-on d [] l = let n : d + 0 ≡ d = omega arith in rw (n, le-leb d most_digits l) (end (ltb 0 d))
  where
    end : (x : Bool) → x ≡ x && true && true
    end true = refl
    end false = refl
good-on d (b ∷ bs) l = rw (le-leb 1 (d + suc (length bs)) (omega arith)) (go (ltb d most_digits) refl (good-on (d + 1) bs))
  where
    n : d + 1 + length bs ≡ d + suc (length bs)
    n = omega arith

    swap : (x z w : Bool) → x && true && (z && w) ≡ z && (x && w)
    swap true z w = refl
    swap false true w = refl
    swap false false w = refl

    stop : (x w : Bool) → x && false && w ≡ false
    stop true w = refl
    stop false w = refl

    go : (t : Bool) → ltb d most_digits ≡ t
        → (d + 1 ≤ most_digits → good (d + 1) bs ≡ leb 1 (d + 1 + length bs) && leb (d + 1 + length bs) most_digits && every is_digit bs)
        → is_digit b && t && good (d + 1) bs ≡ leb (d + suc (length bs)) most_digits && (is_digit b && every is_digit bs)
    go true e ih =
        rw (ih (omega (arith, ltb-true d most_digits e)), n, le-leb 1 (d + suc (length bs)) (omega arith)) (swap (is_digit b) (leb (d + suc (length bs)) most_digits) (every is_digit bs))
    go false e ih = rw (lt-leb (d + suc (length bs)) most_digits (omega (arith, ltb-false d most_digits e))) (stop (is_digit b) (good (d + 1) bs))

-- a whole field is good exactly if it is a number
good-number : (f : List ℕ) → good 0 f ≡ is_number f
unfolding is_number
good-number f = good-on 0 f (omega arith) ∙ rw zero-add

-- ---- what the fields from one on give, n numbers of at most m being read, and of this field d digits with the value v
pub collect : (m n : ℕ) → List ℕ → ℕ → ℕ → List (List ℕ) → Option Numbers
collect m n vs d v [] = None
collect m n vs d v (f ∷ []) = pick (good d f && ltb n m) (some_numbers (n + 1) (set vs n (value_from v f))) None
collect m n vs d v (f ∷ g ∷ fs) = pick (good d f && ltb n m) (collect m (n + 1) (set vs n (value_from v f)) 0 0 (g ∷ fs)) None

-- a field ends, and others follow
collect-more : (m n : ℕ) (vs : List ℕ) (d v : ℕ) (f : List ℕ) (fs : List (List ℕ)) → Cons fs
    → collect m n vs d v (f ∷ fs) ≡ pick (good d f && ltb n m) (collect m (n + 1) (set vs n (value_from v f)) 0 0 fs) None
unfolding collect
collect-more m n vs d v f fs (cons g gs) = refl

-- a byte of a field
collect-byte : (m n : ℕ) (vs : List ℕ) (d v b : ℕ) (u : Bool) → may_follow d b ≡ u → (fs : List (List ℕ)) → Cons fs
    → collect m n vs d v (on_first b fs) ≡ pick u (collect m n vs (d + 1) (v * 10 + (b - nought)) fs) None
unfolding collect good value_from
collect-byte m n vs d v b true e fs (cons f []) = rw e
collect-byte m n vs d v b true e fs (cons f (g ∷ gs)) = rw e
collect-byte m n vs d v b false e fs (cons f []) = rw e
collect-byte m n vs d v b false e fs (cons f (g ∷ gs)) = rw e

-- what a line gives from the end of its word or of a number on: no more numbers, or a comma and more of them
pub after : (m : ℕ) → List ℕ → ℕ → ℕ → List ℕ → Option Numbers
after m s i n vs = pick (ltb i (length s)) (collect m n vs 0 0 (fields (drop (i + 1) s))) (some_numbers n vs)

-- ---- one turn
module _ (m : ℕ) (s : List ℕ) (i n : ℕ) (vs : List ℕ) (d v : ℕ) where
  abbrev pub from : Option Numbers
  from = collect m n vs d v (fields (drop i s))

  module _ (h : i < length s) (k : get_or s i 0 ≡ comma → ⊥) where
    turn : (u : Bool) → may_follow d (get_or s i 0) ≡ u → from ≡ pick u (collect m n vs (d + 1) (v * 10 + (get_or s i 0 - nought)) (fields (drop (i + 1) s))) None
    turn u e = ap (collect m n vs d v) (fields-byte s i h k) ∙ collect-byte m n vs d v (get_or s i 0) u e (fields (drop (i + 1) s)) (fields-cons (drop (i + 1) s))

    pub digit : may_follow d (get_or s i 0) ≡ true → from ≡ collect m n vs (d + 1) (v * 10 + (get_or s i 0 - nought)) (fields (drop (i + 1) s))
    digit e = turn true e

    pub bad : may_follow d (get_or s i 0) ≡ false → from ≡ None
    bad e = turn false e

  ended : i < length s → get_or s i 0 ≡ comma → from ≡ pick (ltb 0 d && ltb n m) (collect m (n + 1) (set vs n v) 0 0 (fields (drop (i + 1) s))) None
  unfolding good value_from
  ended h k = ap (collect m n vs d v) (fields-comma s i h k) ∙ collect-more m n vs d v [] (fields (drop (i + 1) s)) (fields-cons (drop (i + 1) s))

  -- a number with a digit or more ends at a comma, or at the end of the line
  pub ends-comma : i < length s → get_or s i 0 ≡ comma → (d ≡ 0 → ⊥) → n < m → from ≡ after m s i (n + 1) (set vs n v)
  unfolding after
  ends-comma h k p l = ended h k ∙ rw (lt-ltb 0 d (omega arith), lt-ltb n m l, lt-ltb i (length s) h)

  pub ends-line : length s ≤ i → (d ≡ 0 → ⊥) → n < m → from ≡ after m s i (n + 1) (set vs n v)
  unfolding collect good value_from after
  ends-line h p l = ap (collect m n vs d v) (fields-end s i h) ∙ rw (lt-ltb 0 d (omega arith), lt-ltb n m l, le-ltb i (length s) h)

  -- one with none breaks the form
  pub none-comma : i < length s → get_or s i 0 ≡ comma → d ≡ 0 → from ≡ None
  none-comma h k p = ended h k ∙ rw p

  pub none-line : length s ≤ i → d ≡ 0 → from ≡ None
  unfolding collect good
  none-line h p = ap (collect m n vs d v) (fields-end s i h) ∙ rw p

-- so does a number too many
full : (m n : ℕ) (vs : List ℕ) → m ≤ n → (fs : List (List ℕ)) → collect m n vs 0 0 fs ≡ None
unfolding collect
full m n vs h [] = refl
full m n vs h (f ∷ []) = rw (le-ltb n m h, and-false (good 0 f))
full m n vs h (f ∷ g ∷ fs) = rw (le-ltb n m h, and-false (good 0 f))

module _ (m : ℕ) (s : List ℕ) (i n : ℕ) (vs : List ℕ) where
  pub at-end : length s ≤ i → after m s i n vs ≡ some_numbers n vs
  unfolding after
  at-end h = rw (le-ltb i (length s) h)

  pub at-comma : i < length s → after m s i n vs ≡ from m s (i + 1) n vs 0 0
  unfolding after
  at-comma h = rw (lt-ltb i (length s) h)

  pub too_many : i < length s → m ≤ n → after m s i n vs ≡ None
  too_many h l = at-comma h ∙ full m n vs l (fields (drop (i + 1) s))

-- ---- what a digit is, and the number that it makes
pub record Digit (d v b : ℕ) : Type 0 where
  pub low : nought ≤ b
  pub high : b ≤ nought + 9
  pub few : d < most_digits
  pub small : v * 10 + (b - nought) < 10 ^ (d + 1)
  pub fits : v * 10 + (b - nought) < 10 ^ most_digits

pub is-digit : (d v b : ℕ) → v < 10 ^ d → may_follow d b ≡ true → Digit d v b
is-digit d v b h m =
    let few = ltb-true d most_digits (and_right (is_digit b) (ltb d most_digits) m) in
    let r = digit-range b (and_left (is_digit b) (ltb d most_digits) m) in
    let next : 10 ^ (d + 1) ≡ 10 ^ d * 10 = rw add-one (pow-suc 10 d) in
    let most : 10 ^ (d + 1) ≤ 10 ^ most_digits = pow-le-pow_right (lit< tt) {i = d + 1} {j = most_digits} (omega arith) in
    record { low = r.0; high = r.1; few = few; small = omega (arith, r.1); fits = omega (arith, r.1) }

-- ---- the numbers of all the fields, laid out after those read
abbrev told : (m : ℕ) → List ℕ → List (List ℕ) → Option Numbers
told m xs fs = pick (every is_number fs && leb (length xs + length fs) m) (some_numbers (length xs + length fs) (laid 0 most_numbers (xs ++ map value fs))) None

told_more : (m : ℕ) (xs : List ℕ) (f : List ℕ) (fs : List (List ℕ)) → is_number f ≡ true → told m (xs ++ (value f ∷ [])) fs ≡ told m xs (f ∷ fs)
unfolding every
told_more m xs f fs h =
    let n : length (xs ++ (value f ∷ [])) + length fs ≡ length xs + suc (length fs) = omega (arith, length-snoc xs (value f)) in
    rw (h, n, append_snoc xs (value f) (map value fs))

-- no number in form, or one too many
told-broken : (m : ℕ) (xs : List ℕ) (f : List ℕ) (fs : List (List ℕ)) → is_number f ≡ false → told m xs (f ∷ fs) ≡ None
unfolding every
told-broken m xs f fs h = rw h

told-full : (m : ℕ) (xs : List ℕ) (f : List ℕ) (fs : List (List ℕ)) → m ≤ length xs → told m xs (f ∷ fs) ≡ None
told-full m xs f fs h = rw (lt-leb (length xs + suc (length fs)) m (omega arith), and-false (every is_number (f ∷ fs)))

told-last : (m : ℕ) (xs : List ℕ) → length xs ≤ m → told m xs [] ≡ some_numbers (length xs) (laid 0 most_numbers xs)
unfolding every
told-last m xs h =
    let n : length xs + 0 ≡ length xs = omega arith in
    rw (n, le-leb (length xs) m h, append-nil xs)

collect-told : (m : ℕ) → m ≤ most_numbers → (fs : List (List ℕ)) (f : List ℕ) (xs : List ℕ) → collect m (length xs) (laid 0 most_numbers xs) 0 0 (f ∷ fs) ≡ told m xs (f ∷ fs)
unfolding collect
collect-told m l [] f xs = rw (good-number f) (go (is_number f) refl (ltb (length xs) m) refl)
  where
    go : (a : Bool) → is_number f ≡ a → (t : Bool) → ltb (length xs) m ≡ t
        → pick (a && t) (some_numbers (length xs + 1) (set (laid 0 most_numbers xs) (length xs) (value f))) None ≡ told m xs (f ∷ [])
    go false e t h = sym (told-broken m xs f [] e)
    go true e false h = sym (told-full m xs f [] (ltb-false (length xs) m h))
    go true e true h =
        let k = ltb-true (length xs) m h in
        ap₂ some_numbers (sym (length-snoc xs (value f))) (laid-snoc 0 most_numbers xs (value f) (omega arith))
        ∙ sym (told-last m (xs ++ (value f ∷ [])) (omega (arith, length-snoc xs (value f)))) ∙ told_more m xs f [] e
collect-told m l (g ∷ fs) f xs = rw (good-number f) (go (is_number f) refl (ltb (length xs) m) refl (collect-told m l fs g (xs ++ (value f ∷ []))))
  where
    go : (a : Bool) → is_number f ≡ a → (t : Bool) → ltb (length xs) m ≡ t
        → collect m (length (xs ++ (value f ∷ []))) (laid 0 most_numbers (xs ++ (value f ∷ []))) 0 0 (g ∷ fs) ≡ told m (xs ++ (value f ∷ [])) (g ∷ fs)
        → pick (a && t) (collect m (length xs + 1) (set (laid 0 most_numbers xs) (length xs) (value f)) 0 0 (g ∷ fs)) None ≡ told m xs (f ∷ g ∷ fs)
    go false e t h ih = sym (told-broken m xs f (g ∷ fs) e)
    go true e false h ih = sym (told-full m xs f (g ∷ fs) (ltb-false (length xs) m h))
    go true e true h ih =
        rw (laid-snoc 0 most_numbers xs (value f) (omega (arith, ltb-true (length xs) m h)), ← (length-snoc xs (value f))) (ih ∙ told_more m xs f (g ∷ fs) e)

-- ---- where the loops begin
pub begin : (m : ℕ) → m ≤ most_numbers → (s : List ℕ) (e : ℕ) → numbers_in m (fields_after e s) ≡ after m s e 0 (replicate most_numbers 0)
unfolding numbers_in fields_after after laid every
begin m l s e = go (ltb e (length s))
  where
    told-all : (fs : List (List ℕ)) → Cons fs → collect m 0 (replicate most_numbers 0) 0 0 fs ≡ told m [] fs
    told-all fs (cons f gs) = collect-told m l gs f []

    go : (t : Bool) → numbers_in m (pick t (fields (drop (e + 1) s)) []) ≡ pick t (collect m 0 (replicate most_numbers 0) 0 0 (fields (drop (e + 1) s))) (some_numbers 0 (replicate most_numbers 0))
    go true = sym (told-all (fields (drop (e + 1) s)) (fields-cons (drop (e + 1) s)) ∙ rw zero-add)
    go false = rw (le-leb 0 m (omega arith))
