-- `lift_row` meets its contract. Assumes nothing.
use Prim.Native.Nat.{ℕ, ◌+◌, ◌-◌}
use mathlib.Core.Path.{◌≡◌, refl, sym, ap, ◌∙◌, subst}
use mathlib.Core.Bool.{Bool, true, false}
use mathlib.Core.List.{List}
use lib.Dec.{leb}
use Rattle.lists.specs.Argmax.{guard}
use Rattle.marks.specs.Bits.{has_mark}
use Rattle.meaning.specs.Cell.{empty}
use Rattle.meaning.proofs.Cell.{⊕-right}
use Rattle.cells.specs.declared.problem.Shape.{Shape}
use Rattle.cells.specs.Work.{place_of, cells_in, cells_from, Agrees, held_row}
use Rattle.cells.specs.Strip.{moved, Raised}
use Rattle.cells.proofs.Strips.{raised-none, raised-agree, moved-agree}
use Rattle.cells.proofs.Places.{row-none, row-some}
use Rattle.cells.proofs.stretch.Search.lift_row.Goals as goal

guard-zero : (t : Bool) → guard t 0 ≡ 0
guard-zero true = refl
guard-zero false = refl

module _ (sh : Shape) (w s t : List ℕ) (k g shift own from to : ℕ) where
  abbrev Goal : List ℕ → Type 0
  Goal t = Raised s t from to (moved shift own (held_row sh w k g))

  flat-row : k ≡ 0 → (b : Bool) → b ≡ has_mark sh.ends.0 g → b ≡ true → Raised s t from to (moved shift own (λ _. empty)) → Goal t
  flat-row e b h q r =
      subst (λ f. Raised s t from to (moved shift own f)) (sym (row-none sh w k g e b h ∙ ap (λ (x : Bool). λ (c : ℕ). guard x empty) q)) r

  no_row : k ≡ 0 → (b : Bool) → b ≡ has_mark sh.ends.0 g → b ≡ false → Goal s
  no_row e b h q =
      subst (λ f. Raised s s from to (moved shift own f)) (sym (row-none sh w k g e b h ∙ ap (λ (x : Bool). λ (c : ℕ). guard x empty) q))
      (raised-none s from to (moved shift own (λ c. 0)) (λ a l m. ap (guard (leb shift a)) (⊕-right own 0 refl) ∙ guard-zero (leb shift a)))

  held-row : (k ≡ 0 → ⊥) → (m : List ℕ) → Agrees (cells_in m) (cells_from w (place_of sh k (sh.states + (g - 1)))) to
      → Raised s t from to (moved shift own (cells_in m)) → Goal t
  held-row e m h r =
      subst (λ f. Raised s t from to (moved shift own f)) (sym (row-some sh w k g e)) (raised-agree r _ (λ a l b. moved-agree h shift own a b))

pub returns-then-has : goal.returns-then-has
returns-then-has c =
    let s = c.args in
    flat-row s.self.now.shape s.self.now.work.now s.strip.now _ s.row.load s.row.stage s.shift s.own s.from _
    c.if-row-eq0.true _ c.has.ensures c.if-has.true c.flat.ensures

pub returns-else-has : goal.returns-else-has
returns-else-has c =
    let s = c.args in
    no_row s.self.now.shape s.self.now.work.now s.strip.now s.strip.now s.row.load s.row.stage s.shift s.own s.from _
    c.if-row-eq0.true _ c.has.ensures c.if-has.false

pub returns : goal.returns
returns c =
    let s = c.args in
    held-row s.self.now.shape s.self.now.work.now s.strip.now _ s.row.load s.row.stage s.shift s.own s.from _
    c.if-row-eq0.false _ c.cells-cells.ensures.same c.lift.ensures
