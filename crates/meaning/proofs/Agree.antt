-- The best of a load or of a place in a row depends only on the cells that its rules lead to, within the allowance; and it does not fall as the allowance grows.
-- Assumes nothing.
use Prim.Native.Nat.{ℕ, suc, ◌-◌, ◌≤◌, ◌<◌, zero-le}
use mathlib.Core.Path.{◌≡◌, ap, ap₂}
use mathlib.Core.Bool.{Bool, true, false, ◌&&◌}
use mathlib.Core.List.{List}
use native.Mathlib.Nat.{le_refl, le_trans, sub-le, le_of_suc-le-suc}
use native.Mathlib.Omega.{arith}
use lib.Dec.{T, eqb, leb, leb→le, le→leb}
use lib.ListN.{length}
use Rattle.lists.specs.Argmax.{guard, Greatest}
use Rattle.lists.proofs.Argmax.{argmax-agree, argmax-bound, argmax-least}
use Rattle.tables.specs.declared.rule.Transition.{Transition}
use Rattle.tables.specs.Tables.{Book}
use Rattle.meaning.specs.Runs.{is_start, rule_at}
use Rattle.meaning.specs.Forest.{Item, Forest, nil, node}
use Rattle.meaning.specs.Cell.{◌⊕◌, draw, score}
use Rattle.meaning.specs.Best.{best_rule, load_reach, row_reach, shares, load_rule_for, row_rule_for, branch_cell, row_cell, best, best_tree}
use Rattle.meaning.proofs.Cell.{⊕-mono}
use Rattle.meaning.proofs.Optimal.{and-elim, and_intro}

rules-agree : (ts : List Transition) (x : ℕ) (reach reach' : Transition → ℕ)
    → ((j : ℕ) → j < length ts → reach (rule_at ts j) ≡ reach' (rule_at ts j)) → best_rule ts x reach ≡ best_rule ts x reach'
rules-agree ts x reach reach' h =
    argmax-agree _ _ (length ts) (λ j l. ap (guard (eqb (rule_at ts j).from x)) (h j l))

pub shares-agree : (branch branch' later later' : ℕ → ℕ) (c : ℕ) → ((a : ℕ) → a ≤ c → branch a ≡ branch' a)
    → ((a : ℕ) → a ≤ c → later a ≡ later' a) → shares branch later c ≡ shares branch' later' c
shares-agree branch branch' later later' c h k =
    argmax-agree _ _ (suc c) (λ a l. ap₂ ◌⊕◌ (h a (le_of_suc-le-suc l)) (k (c - a) (sub-le c a)))

module _ (b : Book) where
  pub load-agree : (i : Item) (below below' : ℕ → ℕ → ℕ) (q c : ℕ)
      → ((j a : ℕ) → j < length b.load_rules → a ≤ c → below (rule_at b.load_rules j).to a ≡ below' (rule_at b.load_rules j).to a)
      → load_rule_for b i below q c ≡ load_rule_for b i below' q c
  load-agree i below below' q c h =
      rules-agree b.load_rules q (load_reach i below c) (load_reach i below' c)
      (λ j l. ap (λ x. guard (i.serves (rule_at b.load_rules j) && leb (draw i (rule_at b.load_rules j).label) c)
      (score i (rule_at b.load_rules j).label ⊕ x)) (h j _ l (sub-le c _)))

  pub row-agree : (branch branch' later later' : ℕ → ℕ → ℕ) (g c : ℕ)
      → ((j a : ℕ) → j < length b.row_rules → a ≤ c → branch (rule_at b.row_rules j).label a ≡ branch' (rule_at b.row_rules j).label a)
      → ((j a : ℕ) → j < length b.row_rules → a ≤ c → later (rule_at b.row_rules j).to a ≡ later' (rule_at b.row_rules j).to a)
      → row_rule_for b branch later g c ≡ row_rule_for b branch' later' g c
  row-agree branch branch' later later' g c h k =
      rules-agree b.row_rules g (row_reach branch later c) (row_reach branch' later' c)
      (λ j l. ap (λ (p : Greatest). p.value) (shares-agree _ _ _ _ c (λ a s. h j a l s) (λ a s. k j a l s)))

-- Growing allowances
guard_mono : (s t : Bool) (x y : ℕ) → (T s → T t) → x ≤ y → guard s x ≤ guard t y
guard_mono true true x y f h = h
guard_mono true false x y f h = absurd (f tt)
guard_mono false t x y f h = zero-le

abbrev pub Grows : (ℕ → ℕ → ℕ) → Type 0
Grows cell = (x c c' : ℕ) → c ≤ c' → cell x c ≤ cell x c'

rules-grow : (ts : List Transition) (x : ℕ) (reach reach' : Transition → ℕ) → ((t : Transition) → reach t ≤ reach' t)
    → (best_rule ts x reach).value ≤ (best_rule ts x reach').value
rules-grow ts x reach reach' h =
    argmax-least _ (length ts) _ (λ j l. le_trans
    (guard_mono (eqb (rule_at ts j).from x) (eqb (rule_at ts j).from x) (reach (rule_at ts j)) (reach' (rule_at ts j)) (λ t. t) (h (rule_at ts j)))
    (argmax-bound (λ j. guard (eqb (rule_at ts j).from x) (reach' (rule_at ts j))) (length ts) j l))

module _ (b : Book) where
  pub branch-grows : (i : Item) (below : ℕ → ℕ → ℕ) → Grows below → Grows (branch_cell b i below)
  branch-grows i below h q c c' l =
      rules-grow b.load_rules q (load_reach i below c) (load_reach i below c')
      (λ t. guard_mono (i.serves t && leb (draw i t.label) c) (i.serves t && leb (draw i t.label) c') _ _
      (λ s. let p = and-elim (i.serves t) (leb (draw i t.label) c) s in
      and_intro (i.serves t) (leb (draw i t.label) c') p.0 (le→leb (draw i t.label) c' (le_trans (leb→le (draw i t.label) c p.1) l)))
      (⊕-mono (score i t.label) (score i t.label) (below t.to (c - draw i t.label)) (below t.to (c' - draw i t.label))
      (le_refl _) (h _ _ _ (omega arith))))

  row-grows : (branch later : ℕ → ℕ → ℕ) → Grows later → Grows (row_cell b branch later)
  row-grows branch later h g c c' l =
      rules-grow b.row_rules g (row_reach branch later c) (row_reach branch later c')
      (λ r. argmax-least _ (suc c) _ (λ a s. le_trans
      (⊕-mono (branch r.label a) (branch r.label a) (later r.to (c - a)) (later r.to (c' - a)) (le_refl _) (h _ _ _ (omega arith)))
      (argmax-bound (λ a. branch r.label a ⊕ later r.to (c' - a)) (suc c') a (omega arith))))

  pub best-grows : (f : Forest) → Grows (best b f)
  unfolding best
  best-grows nil = λ g c c' l. le_refl _
  best-grows (node k i below later) = row-grows (branch_cell b i (best b below)) (best b later) (best-grows later)

  pub tree-grows : (f : Forest) (c c' : ℕ) → c ≤ c' → best_tree b f c ≤ best_tree b f c'
  unfolding best_tree
  tree-grows nil c c' l = zero-le
  tree-grows (node k i below later) c c' l =
      argmax-least _ b.states _ (λ s h. le_trans
      (guard_mono (is_start b (suc s)) (is_start b (suc s)) _ _ (λ x. x) (branch-grows i (best b below) (best-grows below) (suc s) c c' l))
      (argmax-bound (λ s. guard (is_start b (suc s)) (branch_cell b i (best b below) (suc s) c')) b.states s h))
