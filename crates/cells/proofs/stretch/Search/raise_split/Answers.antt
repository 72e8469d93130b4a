-- `raise_split` meets its contract. Assumes nothing.
use Prim.Native.Nat.{ℕ, ◌+◌, ◌-◌}
use mathlib.Core.Path.{◌≡◌, sym, ap, ◌∙◌, subst}
use mathlib.Core.Bool.{Bool, true, false}
use mathlib.Core.List.{List}
use native.Mathlib.Omega.{arith}
use Rattle.lists.specs.Argmax.{guard}
use Rattle.marks.specs.Bits.{has_mark}
use Rattle.meaning.specs.Cell.{power_limit, empty}
use Rattle.meaning.specs.Best.{shares}
use Rattle.meaning.proofs.Bound.{empty-⊕}
use Rattle.cells.specs.declared.problem.Shape.{Shape}
use Rattle.cells.specs.Work.{place_of, cells_in, cells_from, Agrees, held_row, held_branch}
use Rattle.cells.specs.Strip.{moved, Raised, Rising}
use Rattle.cells.proofs.Numbers.{empty-is}
use Rattle.cells.proofs.Strips.{raised-none, raised-agree, moved_at}
use Rattle.cells.proofs.Shares.{rising-agree, shares-agree, share-last, share-none}
use Rattle.cells.proofs.Places.{row-none, row-some}
use Rattle.cells.proofs.stretch.Search.raise_split.Goals as goal

module _ (s : List ℕ) (from to : ℕ) where
  abbrev Goal : (ℕ → ℕ) → (ℕ → ℕ) → List ℕ → Type 0
  Goal f g t = Rising f to → Rising g to → Raised s t from to (λ a. (shares f g a).value)

module _ (sh : Shape) (w s t : List ℕ) (k q n h from to : ℕ) (m : List ℕ) (same : Agrees (cells_in m) (held_branch sh w k q) to) where
  alone : n ≡ 0 → (b : Bool) → b ≡ has_mark sh.ends.0 h → b ≡ true → Raised s t from to (moved 0 power_limit (cells_in m))
      → Goal s from to (held_branch sh w k q) (held_row sh w n h) t
  alone e b p v r =
      subst (λ g. Goal s from to (held_branch sh w k q) g t) (sym (row-none sh w n h e b p ∙ ap (λ (z : Bool). λ (c : ℕ). guard z empty) v))
      (λ f g. raised-agree (subst (λ o. Raised s t from to (moved 0 o (cells_in m))) empty-is r) _ (λ a l b. moved_at 0 empty (cells_in m) a (omega arith) ∙ empty-⊕ _
      ∙ ap (cells_in m) (omega arith) ∙ same a b ∙ sym (share-last (held_branch sh w k q) to f a b)))

  none : n ≡ 0 → (b : Bool) → b ≡ has_mark sh.ends.0 h → b ≡ false → Goal s from to (held_branch sh w k q) (held_row sh w n h) s
  none e b p v =
      subst (λ g. Goal s from to (held_branch sh w k q) g s) (sym (row-none sh w n h e b p ∙ ap (λ (z : Bool). λ (c : ℕ). guard z empty) v))
      (λ f g. raised-none s from to _ (λ a l m. share-none (held_branch sh w k q) a))

  both : (n ≡ 0 → ⊥) → (l : List ℕ) → Agrees (cells_in l) (cells_from w (place_of sh n (sh.states + (h - 1)))) to
      → Goal s from to (cells_in m) (cells_in l) t → Goal s from to (held_branch sh w k q) (held_row sh w n h) t
  both e l later r =
      subst (λ g. Goal s from to (held_branch sh w k q) g t) (sym (row-some sh w n h e))
      (λ f g. raised-agree (r (rising-agree same f) (rising-agree later g)) _ (λ a u b. shares-agree same later a b))

pub returns-then-has : goal.returns-then-has
returns-then-has c =
    let s = c.args in
    alone s.self.now.shape s.self.now.work.now s.strip.now _ s.k s.q s.row.load s.row.stage s.from _ _ c.cells-branch.ensures.same
    c.if-row-eq0.true _ c.has.ensures c.if-has.true c.lift.ensures

pub returns-else-has : goal.returns-else-has
returns-else-has c =
    let s = c.args in
    none s.self.now.shape s.self.now.work.now s.strip.now s.strip.now s.k s.q s.row.load s.row.stage s.from _ _ c.cells-branch.ensures.same
    c.if-row-eq0.true _ c.has.ensures c.if-has.false

pub returns : goal.returns
returns c =
    let s = c.args in
    both s.self.now.shape s.self.now.work.now s.strip.now _ s.k s.q s.row.load s.row.stage s.from _ _ c.cells-branch.ensures.same
    c.if-row-eq0.false _ c.cells-later.ensures.same c.share.ensures
