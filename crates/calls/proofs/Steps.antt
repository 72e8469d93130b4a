-- Changes that are accepted one after the other: lists of them, one for each element of a list, and one for each mark. Assumes nothing.
use Prim.Native.Nat.{ℕ, zero, suc, ◌%◌, ◌^◌, ◌≤◌, ◌<◌}
use mathlib.Core.Path.{◌≡◌, refl, sym, subst, ◌∙◌}
use mathlib.Core.Bool.{Bool, true, false}
use mathlib.Core.List.{List, [], ◌∷◌, ◌++◌, map, append-nil}
use native.Mathlib.Nat.{mod-eq_of_lt}
use native.Mathlib.Omega.{arith}
use borrow.Author.Tests.{le-leb}
use lib.Seq.{append_snoc}
use Rattle.lists.specs.Tests.{pick}
use Rattle.marks.specs.declared.Marks.{Marks}
use Rattle.marks.specs.Bits.{has_mark}
use Rattle.marks.specs.Sets.{marked}
use Rattle.marks.proofs.Laws.{mark-more, mark-less}
use Rattle.lines.specs.declared.Change.{Change}
use Rattle.lines.specs.Saved.{mark_change, mark_changes}
use Rattle.tables.specs.declared.rule.Sort.{Sort}
use Rattle.tables.specs.Tables.{Tables}
use Rattle.tables.specs.Limits.{between, max_states}
use Rattle.calls.specs.Saves.{Step, Takes, none, next}

pub one : {t u : Tables} {c : Change} → Step t c u → Takes t (c ∷ []) u
one s = next s none

pub takes-append : {t u v : Tables} {cs ds : List Change} → Takes t cs u → Takes u ds v → Takes t (cs ++ ds) v
takes-append none q = q
takes-append (next s p) q = next s (takes-append p q)

-- ---- one for each element of a list
module _ {A : Type 0} (f : A → Change) (at : List A → Tables) (all : List A)
    (step : (xs : List A) (y : A) (ys : List A) → xs ++ (y ∷ ys) ≡ all → Step (at xs) (f y) (at (xs ++ (y ∷ [])))) where
  from-here : (ys xs : List A) → xs ++ ys ≡ all → Takes (at xs) (map f ys) (at all)
  from-here [] xs e = subst (λ (l : List A). Takes (at xs) [] (at l)) (sym (append-nil xs) ∙ e) none
  from-here (y ∷ ys) xs e = next (step xs y ys e) (from-here ys (xs ++ (y ∷ [])) (append_snoc xs y ys ∙ e))

  pub for-each : Takes (at []) (map f all) (at all)
  for-each = from-here all [] refl

-- ---- one for each mark
abbrev pub marks : ℕ → Marks
marks x = record { 0 = x }

module _ (k : Sort) (at : Marks → Tables) (n : ℕ) (most : n ≤ max_states)
    (step : (m : Marks) (q : ℕ) → between 1 n q ≡ true → Step (at m) (mark_change k q) (at (marked m q))) (m : Marks) where
  mark-to : (i : ℕ) → i ≤ n → Takes (at (marks 0)) (mark_changes k m i) (at (marks (m.0 % 2 ^ i)))
  unfolding mark_changes
  mark-to zero h = let z : m.0 % 2 ^ 0 ≡ 0 = omega arith in rw z none
  mark-to (suc i) h = go (has_mark m.0 (suc i)) refl (mark-to i (omega arith))
    where
      go : (b : Bool) → has_mark m.0 (suc i) ≡ b → Takes (at (marks 0)) (mark_changes k m i) (at (marks (m.0 % 2 ^ i)))
          → Takes (at (marks 0)) (mark_changes k m i ++ pick b (mark_change k (suc i) ∷ []) []) (at (marks (m.0 % 2 ^ suc i)))
      go true e ih =
          let s = step (marks (m.0 % 2 ^ i)) (suc i) (rw (le-leb 1 (suc i) (omega arith)) (le-leb (suc i) n h)) in
          takes-append ih (one (rw (mark-more 8 m.0 i (omega arith) e) at s))
      go false e ih = rw (append-nil, mark-less m.0 i e) ih

  pub for-marks : m.0 < 2 ^ n → Takes (at (marks 0)) (mark_changes k m n) (at m)
  for-marks h = let z : m.0 % 2 ^ n ≡ m.0 = mod-eq_of_lt h in rw z at (mark-to n (omega arith))
