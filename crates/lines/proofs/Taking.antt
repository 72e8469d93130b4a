-- One line of a chunk, as `take_line` takes it. Assumes nothing.
use Prim.Native.Nat.{ℕ, ◌+◌, ◌-◌, ◌≤◌, ◌<◌, min}
use mathlib.Core.Path.{◌≡◌, refl, sym, ◌∙◌}
use mathlib.Core.Bool.{Bool, true, false}
use mathlib.Core.List.{List, []}
use mathlib.Core.Logic.{◌⊎◌, inl, inr}
use native.Mathlib.Omega.{arith}
use borrow.Author.Tests.{lt-ltb, le-ltb}
use borrow.Rule.Slice.PartMut.{put_mid}
use lib.Dec.{eqb}
use lib.ListN.{length, take, length-take}
use lib.Seq.{sets, take_all}
use Rattle.lists.proofs.Bools.{below_or}
use Rattle.lines.specs.Text.{line_feed, before}
use Rattle.lines.specs.Input.{most_kept, bytes_for, has_end, Took}
use Rattle.lines.proofs.Writes.{copied}

abbrev pub is_feed : ℕ → Bool
is_feed b = eqb b line_feed

-- no more of a list than there is
least : (l : List ℕ) (k j : ℕ) → k ≡ min (length l) j → take k l ≡ take j l
least l k j e = go (below_or (length l) j)
  where
    go : (length l < j) ⊎ (j ≤ length l) → take k l ≡ take j l
    go (inl h) = let q : length l ≤ k = omega arith in take_all k l q ∙ sym (take_all j l (omega arith))
    go (inr h) = let q : k ≡ j = omega arith in rw q

-- from place st of the line on, the first k bytes of the chunk up to place u are written
module _ (s old : List ℕ) (n : ℕ) {st k u : ℕ} (full : length old ≡ most_kept) (place : u ≡ before line_feed s) (start : st ≡ min n most_kept)
    (few : k ≡ min (length (take u s)) (most_kept - st)) where
  kept : take k (take u s) ≡ bytes_for n s
  unfolding bytes_for
  kept =
      let e : most_kept - st ≡ most_kept - n = omega arith in
      least (take u s) k (most_kept - st) few ∙ rw (e, place)

  nothing : most_kept - n ≡ 0 → bytes_for n s ≡ []
  unfolding bytes_for
  nothing z = rw z refl

  count : length (take k (take u s)) ≤ most_kept - st
  count = omega (arith, length-take k (take u s), few)

  line : {new : List ℕ} → new ≡ take k (take u s)
      → put_mid st (st + length (take k (take u s)) - st) old new ≡ sets old n (bytes_for n s)
  line {new} q = rw q (copied old (take k (take u s)) st (omega (arith, count)) ∙ go (below_or most_kept n))
    where
      go : (most_kept < n) ⊎ (n ≤ most_kept) → sets old st (take k (take u s)) ≡ sets old n (bytes_for n s)
      go (inl h) = let z : most_kept - n ≡ 0 = omega arith in rw (kept, nothing z) refl
      go (inr h) = let e : st ≡ n = omega arith in rw (kept, e) refl

  pub took-some : {new : List ℕ} → new ≡ take k (take u s) → (i : ℕ) → (i ≡ before line_feed s) × (before line_feed s < length s)
      → Took s old (put_mid st (st + length (take k (take u s)) - st) old new) n (record { count = i + 1; held = n + length (take k (take u s)); ended = true })
  unfolding has_end
  took-some q i h = record { taken = rw (kept, h.0, lt-ltb (before line_feed s) (length s) h.1) refl; line = line q }

  pub took-none : {new : List ℕ} → new ≡ take k (take u s) → before line_feed s ≡ length s
      → Took s old (put_mid st (st + length (take k (take u s)) - st) old new) n (record { count = length s; held = n + length (take k (take u s)); ended = false })
  unfolding has_end
  took-none q h =
      let z : length s + 0 ≡ length s = omega arith in
      record { taken = rw (kept, h, le-ltb (length s) (length s) (omega arith), z) refl; line = line q }
