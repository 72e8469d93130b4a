-- Portions in a list of calls: while a filling's work is handed on, its cells hold what they are to hold. Assumes nothing.
use Prim.Native.Nat.{ℕ, zero, suc, min, ◌+◌, ◌<◌}
use mathlib.Core.Path.{◌≡◌, refl, sym, ap, ap₂, subst, ◌∙◌}
use mathlib.Core.Bool.{Bool, true, false}
use mathlib.Core.List.{List, [], ◌∷◌}
use native.Mathlib.Omega.{arith}
use borrow.Author.Tests.{eqb-true, eqb-false}
use lib.Dec.{eqb}
use Rattle.lists.specs.Tests.{pick}
use Rattle.lists.proofs.Bools.{and_left, and_right}
use Rattle.lines.specs.Text.{same}
use Rattle.meaning.specs.Cells.{cells_of, Holding}
use Rattle.meaning.proofs.Portions.{cells-best}
use Rattle.calls.specs.State.{State, Within}
use Rattle.calls.specs.Rows.{Row, changes, shows, works}
use Rattle.calls.specs.Effects.{state_by}
use Rattle.calls.specs.Calls.{Call, row_for, number_for, after, answer}
use Rattle.calls.specs.Demand2.{PlanRight}
use Rattle.calls.specs.Portions.{PortionCall, Portion, plan_call, portion_number, open_cells, portion_fills, count_by, with_filled, after_portion, Portioned}
use Rattle.calls.specs.Fillings.{Filling, handed_on, broken, is_left, handed, filling_by, PortionRight}
use Rattle.calls.proofs.Refusals.{after-number}
use Rattle.calls.proofs.Plans.{plan-right}
use Rattle.calls.proofs.Work.{clash}
use Rattle.calls.proofs.Answers.{positive}
use Rattle.calls.proofs.Portions.{passes, plan-call}

-- lists of numbers that a test calls the same are
same-is : (xs ys : List ℕ) → same xs ys ≡ true → xs ≡ ys
unfolding same
same-is [] [] e = refl
same-is [] (y ∷ ys) e = absurd (clash (sym e))
same-is (x ∷ xs) [] e = absurd (clash (sym e))
same-is (x ∷ xs) (y ∷ ys) e = ap₂ ◌∷◌ (eqb-true x y (and_left (eqb x y) (same xs ys) e)) (same-is xs ys (and_right (eqb x y) (same xs ys) e))

-- no cell is to hold anything yet
none-held : (s : State) (w : List ℕ) → Holding s.tables w 0
none-held s w = record { at = λ k x a _ _ _ _ l. absurd (omega (arith, l)) }

-- ---- the work of a filling that was handed on holds what it is to hold
abbrev HeldBy : Filling → State → Type 0
HeldBy (handed_on v) s = Holding s.tables v s.filled
HeldBy broken s = Unit {0}

abbrev pub Trusted : Filling → State → Type 0
Trusted f s = 0 < s.filled → HeldBy f s

-- a line that leaves a cell filled is no change that was accepted, and leaves count and tables
held-tables : (f : Filling) (s u : State) → u.tables ≡ s.tables → u.filled ≡ s.filled → HeldBy f s → HeldBy f u
held-tables (handed_on v) s u t n k = rw (t, n) k
held-tables broken s u t n k = tt

row-trusted : (f : Filling) (s : State) (n : ℕ) (r : Row) → Trusted f s → Trusted f (state_by s n r)
row-trusted f s zero (changes x) k l = absurd (omega (arith, l))
row-trusted f s (suc n) (changes x) k l = held-tables f s (state_by s (suc n) (changes x)) refl refl (k l)
row-trusted f s zero (shows b cs x) k l = held-tables f s (state_by s zero (shows b cs x)) refl refl (k l)
row-trusted f s (suc n) (shows b cs x) k l = held-tables f s (state_by s (suc n) (shows b cs x)) refl refl (k l)
row-trusted f s zero (works t b m before after x) k l = held-tables f s (state_by s zero (works t b m before after x)) refl refl (k l)
row-trusted f s (suc n) (works t b m before after x) k l = held-tables f s (state_by s (suc n) (works t b m before after x)) refl refl (k l)

pub trusted-line : (f : Filling) (s : State) (c : Call) → Trusted f s → Trusted f (after s c)
trusted-line f s c k = subst (Trusted f) (sym (after-number s c)) (row-trusted f s (number_for s c) (row_for s c) k)

-- ---- a portion
-- the work that it got holds what it is to hold, if it was handed on or the filling begins
got : (f : Filling) (s : State) → Trusted f s → (c : PortionCall) → handed f s c ≡ true → Holding s.tables c.work s.filled
got f s k c e = go (eqb s.filled 0) refl
  where
    left : (f : Filling) → HeldBy f s → is_left f c.work ≡ true → Holding s.tables c.work s.filled
    left (handed_on v) k e = rw (same-is c.work v e) k
    left broken k e = absurd (clash (sym e))

    go : (b : Bool) → eqb s.filled 0 ≡ b → Holding s.tables c.work s.filled
    go true z = rw (eqb-true s.filled 0 z) (none-held s c.work)
    go false z = left f (k (positive (eqb-false s.filled 0 z))) (rw z at e)

module _ (f : Filling) (s : State) (h : Within s) (k : Trusted f s) (x : Portion) (d : Portioned s x.call x.done) where
  abbrev c : PortionCall
  c = x.call

  pub portion-right : portion_number s x.call ≡ 0 → handed f s x.call ≡ true → PortionRight s x.call x.done
  portion-right e g = record {
    cells = filled;
    best = λ o. (cells-best s.tables h.tables).held x.done.reply.work _ (filled o);
    answer = right;
    plan = λ o. subst (PlanRight s.tables (plan_call c)) (sym (right o)) (plan-right s (plan_call c) (plan-call s c (passes s c e)) h);
  }
    where
      filled : 0 < open_cells s → Holding s.tables x.done.reply.work (s.filled + x.done.filled)
      filled o = (d.fills e o).holds (got f s k c g)

      all : open_cells s ≡ 0 → s.filled ≡ cells_of s.tables
      all o = omega (arith, o, h.filled)

      right : open_cells s ≡ 0 → x.done.reply ≡ answer s (plan_call c)
      right o = (d.answers e o).right (subst (Holding s.tables c.work) (all o) (got f s k c g))

  -- so many cells were filled
  filled_is : portion_number s c ≡ 0 → x.done.filled ≡ min c.most (open_cells s)
  filled_is e = d.filled ∙ ap (λ (n : ℕ). portion_fills n s c) e

  more : portion_number s c ≡ 0 → 0 < open_cells s → (b : Bool) → handed f s c ≡ b
      → HeldBy (pick b (handed_on x.done.reply.work) broken) (with_filled s (s.filled + min c.most (open_cells s)))
  more e o true g = subst (λ (n : ℕ). Holding s.tables x.done.reply.work (s.filled + n)) (filled_is e) ((d.fills e o).holds (got f s k c g))
  more e o false g = tt

  pub trusted-portion : Trusted (filling_by (portion_number s x.call) f s x) (after_portion s x.call)
  trusted-portion = go (portion_number s c) refl
    where
      some : portion_number s c ≡ 0 → (b : Bool) → eqb (open_cells s) 0 ≡ b
          → Trusted (filling_by 0 f s x) (with_filled s (pick b 0 (s.filled + min c.most (open_cells s))))
      some e true z l = absurd (omega (arith, l))
      some e false z l = more e (positive (eqb-false (open_cells s) 0 z)) (handed f s c) refl

      go : (n : ℕ) → portion_number s c ≡ n → Trusted (filling_by n f s x) (with_filled s (count_by n s c))
      go zero e = some e (eqb (open_cells s) 0) refl
      go (suc n) e = λ l. held-tables f s (with_filled s s.filled) refl refl (k l)
