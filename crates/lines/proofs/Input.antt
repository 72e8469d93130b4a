-- Input cut into lines: the lines are those of the whole input, kept to 145 bytes each, however it is cut into chunks. Assumes nothing.
use Prim.Native.Nat.{ℕ, zero, suc, ◌+◌, ◌-◌, ◌≤◌}
use mathlib.Core.Path.{◌≡◌, refl, sym, ap, ◌∙◌}
use mathlib.Core.Bool.{Bool, true, false}
use mathlib.Core.List.{List, [], ◌∷◌, ◌++◌, map, flatten, append-nil}
use native.Mathlib.Numerals.{add-one}
use native.Mathlib.Omega.{arith}
use borrow.Author.Tests.{lt-ltb, ltb-true, ltb-false, eqb-true}
use lib.Dec.{eqb, ltb, leb-suc-suc}
use lib.ListN.{length, take, drop, length-take, length-append}
use lib.Seq.{take_all, append_snoc, sets-eq, take_at, take-append-add}
use Rattle.lists.specs.Tests.{pick}
use Rattle.lines.specs.declared.splitting.Taken.{Taken}
use Rattle.lines.specs.Text.{line_feed, first_at, before}
use Rattle.lines.specs.Length.{most_bytes, too_long}
use Rattle.lines.specs.Input.{lines, most_kept, kept, Fed, ahead, feed, feed_all, bytes_for, has_end, Took}
use Rattle.lines.proofs.Without.{Without, none, byte, without-append, lines-first, lines-last}

-- ---- what is kept of a line tells whether it is too long, and is the line where it is not
pub kept-short : (l : List ℕ) → too_long l ≡ false → kept l ≡ l
kept-short l h = take_all most_kept l (omega (arith, ltb-false most_bytes (length l) h))

pub kept-long : (l : List ℕ) → too_long l ≡ true → length (kept l) ≡ most_kept
kept-long l h = omega (arith, length-take most_kept l, ltb-true most_bytes (length l) h)

pub kept-tells : (l : List ℕ) → too_long (kept l) ≡ too_long l
kept-tells l = go (too_long l) refl
  where
    go : (t : Bool) → too_long l ≡ t → too_long (kept l) ≡ t
    go true e = lt-ltb most_bytes (length (kept l)) (omega (arith, kept-long l e))
    go false e = rw (kept-short l e) e

-- bytes that come later may be kept or not
kept_append : (n : ℕ) (a c : List ℕ) → take n (take n a ++ c) ≡ take n (a ++ c)
kept_append zero a c = refl
kept_append (suc n) [] c = refl
kept_append (suc n) (x ∷ a) c = ap (λ (l : List ℕ). x ∷ l) (kept_append n a c)

-- ---- a byte of a chunk: a line feed ends the line begun, any other goes to it
no : {A : Type 0} → true ≡ false → A
no e = absurd (let z : ◌≡◌ {A = ℕ} 0 1 = cc in omega arith)

module _ (l : List ℕ) (b : ℕ) (bs : List ℕ) where
  feed-end : eqb b line_feed ≡ true → feed l (b ∷ bs) ≡ ahead l (feed [] bs)
  unfolding feed
  feed-end e = go (eqb b line_feed) e
    where
      go : (t : Bool) → t ≡ true → elim t as (λ _. Fed) [ true ↦ ahead l (feed [] bs) | false ↦ feed (kept (l ++ (b ∷ []))) bs ] ≡ ahead l (feed [] bs)
      go true e = refl
      go false e = no (sym e)

  feed-byte : eqb b line_feed ≡ false → feed l (b ∷ bs) ≡ feed (kept (l ++ (b ∷ []))) bs
  unfolding feed
  feed-byte e = go (eqb b line_feed) e
    where
      go : (t : Bool) → t ≡ false → elim t as (λ _. Fed) [ true ↦ ahead l (feed [] bs) | false ↦ feed (kept (l ++ (b ∷ []))) bs ] ≡ feed (kept (l ++ (b ∷ []))) bs
      go true e = no e
      go false e = refl

-- ---- chunk after chunk
-- what a chunk and the chunks after it give, the line begun being l of which only the kept bytes are known
Given : List ℕ → List ℕ → List (List ℕ) → Type 0
Given l c cs = (feed (kept l) c).ended ++ feed_all (feed (kept l) c).begun cs ≡ map kept (lines (l ++ (c ++ flatten cs)))

given-none : (l : List ℕ) (cs : List (List ℕ)) → feed_all (kept l) cs ≡ map kept (lines (l ++ flatten cs)) → Given l [] cs
unfolding Given feed
given-none l cs h = h

given-end : (l : List ℕ) (b : ℕ) (bs : List ℕ) (cs : List (List ℕ)) → Without line_feed l → eqb b line_feed ≡ true → Given [] bs cs → Given l (b ∷ bs) cs
unfolding Given
given-end l b bs cs p e ih =
    let f : b ≡ line_feed = eqb-true b line_feed e in
    rw (feed-end (kept l) b bs e, f, lines-first (bs ++ flatten cs) p) (ap (λ (x : List (List ℕ)). kept l ∷ x) ih)

given-byte : (l : List ℕ) (b : ℕ) (bs : List ℕ) (cs : List (List ℕ)) → eqb b line_feed ≡ false → Given (l ++ (b ∷ [])) bs cs → Given l (b ∷ bs) cs
unfolding Given
given-byte l b bs cs e ih =
    rw (feed-byte (kept l) b bs e, kept_append most_kept l (b ∷ [])) (rw (append_snoc l b (bs ++ flatten cs)) at ih)

given : (c l : List ℕ) (cs : List (List ℕ)) → Without line_feed l
    → ((l : List ℕ) → Without line_feed l → feed_all (kept l) cs ≡ map kept (lines (l ++ flatten cs))) → Given l c cs
given [] l cs p h = given-none l cs (h l p)
given (b ∷ bs) l cs p h = go (eqb b line_feed) refl (given bs [] cs none h) (λ q. given bs (l ++ (b ∷ [])) cs q h)
  where
    go : (t : Bool) → eqb b line_feed ≡ t → Given [] bs cs → (Without line_feed (l ++ (b ∷ [])) → Given (l ++ (b ∷ [])) bs cs) → Given l (b ∷ bs) cs
    go true e x y = given-end l b bs cs p e x
    go false e x y = given-byte l b bs cs e (y (without-append p (byte e none)))

from-begun : (cs : List (List ℕ)) (l : List ℕ) → Without line_feed l → feed_all (kept l) cs ≡ map kept (lines (l ++ flatten cs))
unfolding feed_all flatten Given lines
from-begun [] [] p = refl
from-begun [] (b ∷ l) p = rw (append-nil l, lines-last p)
from-begun (c ∷ cs) l p = more (kept l) (given c l cs p (from-begun cs))
  where
    more : (k : List ℕ) → (feed k c).ended ++ feed_all (feed k c).begun cs ≡ map kept (lines (l ++ (c ++ flatten cs)))
        → feed_all k (c ∷ cs) ≡ map kept (lines (l ++ (c ++ flatten cs)))
    more [] h = h
    more (b ∷ k) h = h

-- the lines of an input are the same however it is cut into chunks
pub chunks-lines : (chunks : List (List ℕ)) → feed_all [] chunks ≡ map kept (lines (flatten chunks))
chunks-lines cs = from-begun cs [] none

-- ---- one line of a chunk, as `take_line` takes it, is what feeding the chunk gives first
-- feeding s to a line begun with l, the first line feed being at place n or nowhere
first_line : List ℕ → ℕ → List ℕ → Fed
first_line l n s =
    pick (ltb n (length s)) (ahead (kept (l ++ take n s)) (feed [] (drop (n + 1) s))) (record { ended = []; begun = kept (l ++ take n s) })

whole : (l : List ℕ) → length l ≤ most_kept → kept (l ++ []) ≡ l
whole l h = rw (append-nil l) (take_all most_kept l h)

first-end : (l : List ℕ) (b : ℕ) (bs : List ℕ) → length l ≤ most_kept → first_line l 0 (b ∷ bs) ≡ ahead l (feed [] bs)
unfolding first_line
first-end l b bs h = rw (lt-ltb 0 (suc (length bs)) (omega arith), whole l h)

first_byte : (l : List ℕ) (b n : ℕ) (bs : List ℕ) → first_line l (suc n) (b ∷ bs) ≡ first_line (kept (l ++ (b ∷ []))) n bs
unfolding first_line
first_byte l b n bs =
    let e : kept (kept (l ++ (b ∷ [])) ++ take n bs) ≡ kept (l ++ (b ∷ take n bs)) = kept_append most_kept (l ++ (b ∷ [])) (take n bs) ∙ rw (append_snoc l b (take n bs)) in
    rw (e, add-one (suc n), add-one n, leb-suc-suc (suc n) (length bs))

feed-first : (s l : List ℕ) → length l ≤ most_kept → feed l s ≡ first_line l (before line_feed s) s
unfolding first_at before first_line feed
feed-first [] l h = rw (whole l h)
feed-first (b ∷ bs) l h = go (eqb b line_feed) refl (feed-first bs (kept (l ++ (b ∷ []))) (omega (arith, length-take most_kept (l ++ (b ∷ [])))))
  where
    go : (t : Bool) → eqb b line_feed ≡ t → feed (kept (l ++ (b ∷ []))) bs ≡ first_line (kept (l ++ (b ∷ []))) (before line_feed bs) bs
        → feed l (b ∷ bs) ≡ first_line l (pick t 0 (suc (before line_feed bs))) (b ∷ bs)
    go true e ih = feed-end l b bs e ∙ sym (first-end l b bs h)
    go false e ih = feed-byte l b bs e ∙ ih ∙ sym (first_byte l b (before line_feed bs) bs)

-- the bytes before the first line feed
abbrev line_in : List ℕ → List ℕ
line_in s = take (before line_feed s) s

-- the line's buffer, of which the first m bytes are held, before and after `take_line`
module _ {s buffer after : List ℕ} {m : ℕ} {r : Taken} (t : Took s buffer after m r) (size : length buffer ≡ most_kept) (few : m ≤ most_kept) where
  text-length : length (bytes_for m s) ≤ most_kept - m
  unfolding bytes_for
  text-length = omega (arith, length-take (most_kept - m) (take (before line_feed s) s))

  held-is : r.held ≡ m + length (bytes_for m s)
  held-is = ap (λ (x : Taken). x.held) t.taken

  pub held-few : r.held ≤ most_kept
  held-few = omega (arith, held-is, text-length, few)

  length-held : length (take m buffer) ≡ m
  length-held = omega (arith, length-take m buffer)

  kept_line : kept (take m buffer ++ line_in s) ≡ take m buffer ++ bytes_for m s
  unfolding bytes_for
  kept_line =
      let n : most_kept ≡ length (take m buffer) + (most_kept - m) = omega (arith, length-held) in
      ap (λ (i : ℕ). take i (take m buffer ++ line_in s)) n ∙ take-append-add (take m buffer) (line_in s) (most_kept - m)

  held-line : take r.held after ≡ kept (take m buffer ++ line_in s)
  held-line =
      let k : length (take m buffer ++ bytes_for m s) ≡ m + length (bytes_for m s) = omega (arith, length-held, length-append (take m buffer) (bytes_for m s)) in
      rw (t.line, held-is, sets-eq (bytes_for m s) buffer m (omega (arith, text-length)), kept_line)
      (take_at (take m buffer ++ bytes_for m s) (drop (m + length (bytes_for m s)) buffer) (m + length (bytes_for m s)) k)

  -- a line that ends is the first of those that end, and the rest of the chunk follows; one that does not is the line begun
  pub took-feeds : feed (take m buffer) s ≡ pick r.ended (ahead (take r.held after) (feed [] (drop r.count s))) (record { ended = []; begun = take r.held after })
  unfolding has_end first_line
  took-feeds = feed-first s (take m buffer) (omega (arith, length-held)) ∙ rw (held-line, t.taken) (go (ltb (before line_feed s) (length s)))
    where
      l : List ℕ
      l = kept (take m buffer ++ line_in s)

      go : (u : Bool) → pick u (ahead l (feed [] (drop (before line_feed s + 1) s))) (record { ended = []; begun = l })
          ≡ pick u (ahead l (feed [] (drop (before line_feed s + pick u 1 0) s))) (record { ended = []; begun = l })
      go true = refl
      go false = refl
