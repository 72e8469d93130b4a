-- What a rule reaches: where it begins does not count; and what a load rule reaches, by the tests of the code. Assumes nothing.
use Prim.Native.Nat.{ℕ, ◌-◌}
use mathlib.Core.Path.{◌≡◌, refl, sym, ap, ap₂, ◌∙◌}
use mathlib.Core.Bool.{Bool, true, false, ◌&&◌}
use mathlib.Core.List.{List}
use lib.Dec.{leb}
use Rattle.lists.specs.Argmax.{guard}
use Rattle.tables.specs.declared.rule.Transition.{Transition}
use Rattle.meaning.specs.Cell.{◌⊕◌, draw, score}
use Rattle.meaning.specs.Best.{load_reach}
use Rattle.cells.specs.declared.problem.Shape.{Shape}
use Rattle.cells.specs.declared.problem.StoredItem.{StoredItem}
use Rattle.cells.specs.declared.outline.Lead.{Lead}
use Rattle.cells.specs.declared.outline.Joint.{Joint}
use Rattle.cells.specs.Problem.{item_of, serves_if}
use Rattle.cells.specs.Outline.{rule_in, lead_in, RuleFits}
use Rattle.cells.specs.Strip.{moved}
use Rattle.cells.specs.Stretch.{leading, reach_if, reach_of}

module _ (sh : Shape) (o : List ℕ) (at j : ℕ) (x : Lead) (e : x ≡ lead_in o at j) where
  pub reach-leading : (w : List ℕ) (t : Joint) (a : ℕ) → reach_of sh w t a (leading x) ≡ reach_of sh w t a (rule_in o at j)
  reach-leading w t a = ap (λ (x : Lead). reach_of sh w t a (leading x)) e ∙ go t.branch
    where
      go : (b : Bool) → reach_if b sh w t a (leading (lead_in o at j)) ≡ reach_if b sh w t a (rule_in o at j)
      go true = refl
      go false = refl

  pub fits-leading : (b : Bool) → RuleFits sh b (rule_in o at j) → RuleFits sh b (leading x)
  fits-leading b f = rw e (record { low = f.low; high = f.high; label = f.label; state = f.state })

module _ (i : StoredItem) (t : Transition) (below : ℕ → ℕ → ℕ) (b : Bool) (s : b ≡ serves_if i.kind i.mark t.kind t.label) where
  abbrev served : Bool → ℕ → ℕ
  served b a = guard (b && leb (draw (item_of i) t.label) a) (score (item_of i) t.label ⊕ below t.to (a - draw (item_of i) t.label))

  is-served : (v : Bool) → b ≡ v → (a : ℕ) → load_reach (item_of i) below a t ≡ served v a
  is-served v h a = ap (λ (x : Bool). served x a) (sym s ∙ h)

  pub unserved : b ≡ false → (a : ℕ) → load_reach (item_of i) below a t ≡ 0
  unserved h a = is-served false h a

  pub ruled : b ≡ true → (d o : ℕ) → d ≡ draw (item_of i) t.label → o ≡ score (item_of i) t.label → (a : ℕ)
      → moved d o (below t.to) a ≡ load_reach (item_of i) below a t
  ruled h d o p r a = ap₂ (λ x y. moved x y (below t.to) a) p r ∙ sym (is-served true h a)
