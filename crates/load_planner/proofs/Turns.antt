-- What a part of a chunk leads to: with what is left of the chunk, what the whole chunk leads to. Assumes nothing.
use Prim.Native.Nat.{ℕ, ◌+◌, ◌≤◌, ◌<◌}
use mathlib.Core.Path.{◌≡◌, sym, ap, ◌∙◌}
use mathlib.Core.Bool.{Bool, true, false}
use mathlib.Core.List.{List, []}
use native.Mathlib.Omega.{arith}
use lib.ListN.{length, take, drop}
use lib.Seq.{drop-length, drop-drop}
use Rattle.lists.specs.Tests.{pick}
use Rattle.lines.specs.declared.splitting.Taken.{Taken}
use Rattle.lines.specs.Input.{most_kept, Fed, ahead, feed, Took}
use Rattle.lines.proofs.Input.{took-feeds}
use Rattle.calls.specs.Program.{Left, Carried, answered, after_chunk}
use Rattle.calls.proofs.Program.{chunk-ends, chunk-held, chunk-none}
use Rattle.load_planner.proofs.Counts.{took-all}

-- where output is not open, nothing is promised
pub closed : {A : Type 0} {b : Bool} → b ≡ true → b ≡ false → A
closed e f = absurd (let z : ◌≡◌ {A = ℕ} 0 1 = cc in omega arith)

-- what is carried, the bytes held being the first of the line's buffer
abbrev pub carried : Left → (buffer : List ℕ) (held : ℕ) → Carried
carried x l n = record { left = x; begun = take n l }

-- a line is taken from the chunk s, of which some bytes were held in the buffer
module _ (left : Left) (buffer after : List ℕ) (held : ℕ) (s : List ℕ) (r : Taken)
    (room : length buffer ≡ most_kept) (few : held ≤ most_kept) (h : 0 < length s) (took : Took s buffer after held r) where
  -- what is left of the chunk gives, the line having ended or not, with this after it
  abbrev given : Bool → (rest : List ℕ) → Fed
  given b rest = pick b (ahead (take r.held after) (feed [] rest)) (record { ended = []; begun = take r.held after })

  fed : (b : Bool) → r.ended ≡ b → feed (take held buffer) s ≡ given b (drop r.count s)
  fed b e = took-feeds took room few ∙ (λ i. given (e i) (drop r.count s))

  -- it ended, and was answered
  pub part-ended : r.ended ≡ true → (x : Carried) → x ≡ answered (carried left after r.held) → after_chunk x (drop r.count s) ≡ after_chunk (carried left buffer held) s
  part-ended e x is =
      ap (λ (x : Carried). after_chunk x (drop r.count s)) is
      ∙ sym (chunk-ends (carried left buffer held) s (take r.held after) (drop r.count s) (fed true e))

  -- it did not end, and is the line begun
  pub part-held : r.ended ≡ false → after_chunk (carried left after r.held) (drop r.count s) ≡ after_chunk (carried left buffer held) s
  part-held e =
      ap (after_chunk (carried left after r.held)) (ap (λ (i : ℕ). drop i s) (took-all s _ _ _ _ h took e) ∙ drop-length s)
      ∙ chunk-none (carried left after r.held)
      ∙ sym (chunk-held (carried left buffer held) s (take r.held after) (fed false e))

-- a part more, from place p of the chunk on: what was left after place p was a part and what is left after it
pub turn : (x y z : Carried) (s : List ℕ) (p n : ℕ) → after_chunk y (drop p s) ≡ after_chunk x s → after_chunk z (drop n (drop p s)) ≡ after_chunk y (drop p s)
    → after_chunk z (drop (p + n) s) ≡ after_chunk x s
turn x y z s p n e f = ap (after_chunk z) (sym (drop-drop n p s)) ∙ f ∙ e

-- at the end of the chunk all of it was taken
pub turned-all : (x y : Carried) (s : List ℕ) (p : ℕ) → p ≡ length s → after_chunk y (drop p s) ≡ after_chunk x s → y ≡ after_chunk x s
turned-all x y s p h e = sym (chunk-none y) ∙ ap (after_chunk y) (sym (drop-length s) ∙ ap (λ (i : ℕ). drop i s) (sym h)) ∙ e
