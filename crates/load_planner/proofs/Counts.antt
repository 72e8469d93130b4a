-- A line that is taken from a chunk takes a byte of it or more, and no more than the chunk has; all of it where the line does not end.
-- Assumes nothing.
use Prim.Native.Nat.{ℕ, ◌+◌, ◌≤◌, ◌<◌}
use mathlib.Core.Path.{◌≡◌, refl, sym, ap, ◌∙◌}
use mathlib.Core.Bool.{Bool, true, false}
use mathlib.Core.List.{List}
use native.Mathlib.Omega.{arith}
use borrow.Author.Tests.{ltb-true, ltb-false}
use lib.Dec.{ltb}
use lib.ListN.{length}
use Rattle.lists.specs.Tests.{pick}
use Rattle.lines.specs.declared.splitting.Taken.{Taken}
use Rattle.lines.specs.Text.{line_feed, before}
use Rattle.lines.specs.Input.{has_end, taken_from, Took}
use Rattle.lines.proofs.Before.{before-most}

pub count-bounds : (n : ℕ) (s : List ℕ) → 0 < length s → (0 < (taken_from n s).count) × ((taken_from n s).count ≤ length s)
unfolding has_end
count-bounds n s h = go (ltb (before line_feed s) (length s)) refl
  where
    go : (b : Bool) → ltb (before line_feed s) (length s) ≡ b → (0 < before line_feed s + pick b 1 0) × (before line_feed s + pick b 1 0 ≤ length s)
    go true e = let l = ltb-true (before line_feed s) (length s) e in omega arith
    go false e = let l = ltb-false (before line_feed s) (length s) e in omega (arith, before-most line_feed s)

-- a line taken from a chunk
pub took-bounds : (s l m : List ℕ) (had : ℕ) (r : Taken) → 0 < length s → Took s l m had r → (0 < r.count) × (r.count ≤ length s)
took-bounds s l m had r h k =
    let e : r.count ≡ (taken_from had s).count = ap (λ (x : Taken). x.count) k.taken in
    let b = count-bounds had s h in
    omega arith

-- one that does not end takes all of it
pub took-all : (s l m : List ℕ) (had : ℕ) (r : Taken) → 0 < length s → Took s l m had r → r.ended ≡ false → r.count ≡ length s
unfolding has_end
took-all s l m had r h k e =
    let none : ltb (before line_feed s) (length s) ≡ false = sym (ap (λ (x : Taken). x.ended) k.taken) ∙ e in
    let count : r.count ≡ before line_feed s + 0 = ap (λ (x : Taken). x.count) k.taken ∙ ap (λ (b : Bool). before line_feed s + pick b 1 0) none in
    omega (arith, count, before-most line_feed s, ltb-false (before line_feed s) (length s) none)
