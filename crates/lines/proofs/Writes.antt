-- A writer's texts: one after another, and a loop that writes a text. Assumes nothing.
use Prim.Native.Nat.{ℕ, ◌+◌, ◌-◌, ◌≤◌, ◌<◌}
use mathlib.Core.Path.{◌≡◌, refl, sym, ◌∙◌}
use mathlib.Core.List.{List, [], ◌++◌, append_assoc}
use native.Mathlib.Omega.{arith}
use borrow.Rule.Slice.PartMut.{put_mid}
use lib.ListN.{length, take, drop, length-append}
use lib.Seq.{sets}
use Rattle.std.proofs.lemmas.List.{drop-drop}
use Rattle.std.proofs.lemmas.List.Edits.{sets-eq}
use Rattle.lines.specs.declared.writing.Writer.{Writer}
use Rattle.lines.specs.Writing.{HasRoom, Writes}
use Rattle.lines.proofs.Wrote.{wrote_none, wrote_then, wrote-length, part_room}

-- what `copy_from_slice` leaves
pub copied : (l t : List ℕ) (at : ℕ) → at + length t ≤ length l → put_mid at (at + length t - at) l t ≡ sets l at t
copied l t at h =
    let e : at + length t - at ≡ length t = omega arith in
    rw (sets-eq t l at h, e, drop-drop) (sym (append_assoc (take at l) t (drop (at + length t) l)))

pub writes_none : (w : Writer) → Writes w w []
writes_none w = record { lent = refl; wrote = wrote_none w.out.now w.at }

-- one text after another
pub writes_then : {u v w : Writer} {a b : List ℕ} → Writes u v a → Writes v w b → Writes u w (a ++ b)
writes_then p q = record { lent = q.lent ∙ p.lent; wrote = wrote_then p.wrote q.wrote }

-- there is room for the first of two texts, and behind it for the second
pub room_first : {w : Writer} {a : List ℕ} (b : List ℕ) → HasRoom w (a ++ b) → HasRoom w a
room_first {w} {a} b h = record { fits = omega (arith, h.fits, length-append a b) }

pub room_then : {v w : Writer} {a b : List ℕ} → Writes v w a → HasRoom v (a ++ b) → HasRoom w b
room_then {v} {w} {a} {b} p h = record { fits = omega (arith, h.fits, length-append a b, p.wrote.end, wrote-length p.wrote) }

-- ---- a loop that writes a text, a part p i a turn: T i is written before turn i
module _ (T p : ℕ → List ℕ) (n : ℕ) (next : (i : ℕ) → i < n → T (i + 1) ≡ T i ++ p i) where
  -- there is room for the part of a turn where there is room for the whole
  pub turn_room : {v w : Writer} (i : ℕ) → i < n → Writes v w (T i) → HasRoom v (T n) → HasRoom w (p i)
  turn_room i h q room = record { fits = part_room T p n next i h q.wrote room.fits }

  pub turn_more : {u v w : Writer} (i : ℕ) → i < n → Writes u v (T i) → Writes v w (p i) → Writes u w (T (i + 1))
  turn_more i h q r = rw (next i h) (writes_then q r)

  -- after the last turn the whole is written
  pub turn_all : {v w : Writer} (i : ℕ) → i ≤ n → n ≤ i → Writes v w (T i) → Writes v w (T n)
  turn_all i a b q = let e : i ≡ n = omega arith in rw e at q
