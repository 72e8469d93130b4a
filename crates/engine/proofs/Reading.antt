-- What the searches find in cells that hold what they are to hold is what the definitions choose. Assumes nothing.
use Prim.Native.Nat.{ℕ, zero, suc, ◌+◌, ◌-◌, ◌≤◌, ◌<◌}
use mathlib.Core.Path.{◌≡◌, sym, ap, ap₂, ◌∙◌, subst}
use mathlib.Core.Bool.{Bool}
use mathlib.Core.List.{List}
use Rattle.std.specs.Prelude.{Option, Some}
use mathlib.Core.Logic.{◌⊎◌, inl, inr}
use native.Mathlib.Omega.{arith}
use native.Mathlib.Nat.{le_trans, le_refl}
use native.Mathlib.Numerals.{add-one}
use native.Mathlib.Decide.{dec_le}
use borrow.Author.Tests.{lt-leb, le-leb}
use lib.ListN.{length, get_or}
use Rattle.lists.specs.Tests.{pick}
use Rattle.lists.specs.Argmax.{guard, Greatest}
use Rattle.lists.proofs.Argmax.{argmax-agree}
use Rattle.marks.specs.Bits.{has_mark}
use Rattle.tables.specs.declared.rule.Transition.{Transition}
use Rattle.tables.specs.Stored.{rules_of, book_of}
use Rattle.meaning.specs.Forest.{Item}
use Rattle.meaning.specs.Cell.{draw}
use Rattle.meaning.specs.Best.{shares}
use Rattle.meaning.specs.Cells.{load_at, next_sibling}
use Rattle.meaning.proofs.Agree.{shares-agree}
use Rattle.meaning.proofs.Rows.{after-above}
use Rattle.cells.specs.declared.problem.Problem.{Problem}
use Rattle.cells.specs.declared.problem.Shape.{Shape}
use Rattle.cells.specs.declared.outline.Rules.{Rules}
use Rattle.cells.specs.Problem.{book_for, loads_for, items_for, shape_of}
use Rattle.cells.specs.Outline.{load_rules_at, row_rules_at, counts_at, child_in, sibling_in, item_in, rule_in, rules_in, joint_in}
use Rattle.cells.specs.Work.{place_of, held_in, cells_from, held_branch, held_row, branch_for, row_for, cell_of, FilledTo}
use Rattle.cells.specs.Stretch.{reached}
use Rattle.cells.proofs.Numbers.{held_same}
use Rattle.cells.proofs.Places.{place-room}
use Rattle.cells.proofs.Stretches as stretches
use Rattle.cells.proofs.Filling.{holds-less}
use Rattle.cells.proofs.Tables.{rule-at, rules-length, rule-to, rule-label}
use Rattle.engine.specs.declared.best.Best.{Best}
use Rattle.engine.specs.declared.choice.Choice.{Choice}
use Rattle.engine.specs.Search.{greatest_of, root_best, choice_by, choice_in}
use Rattle.engine.specs.Parts.{start_best, load_best, load_rule, row_best, row_rule, share_best}
use Rattle.engine.specs.Pass.{best_at, best_for, Complete, load_choice, row_choice}
use Rattle.engine.proofs.Parts.{load-reached, row-found, tree-cell, start-found, root-part}

-- of the problem's own shape
module _ (p : Problem) (o w : List ℕ) (all : Complete p (shape_of p) o w) where
  -- ---- every cell is read as it is to be
  row-held : (k g c : ℕ) → k ≤ p.tables.loads.count → 0 < g → g ≤ p.tables.book.stages → c ≤ p.tables.budget
      → held_row (shape_of p) w k g c ≡ row_for p k g c
  row-held k g c l m n b =
      stretches.row-held p all.outlined.lawful w _ all.holds k l (λ x a u v e. omega (arith, place-room (shape_of p) k x u l v)) g c m n b

  branch_held : (k q c : ℕ) → 0 < k → k ≤ p.tables.loads.count → 0 < q → q ≤ p.tables.book.states → c ≤ p.tables.budget
      → held_branch (shape_of p) w k q c ≡ branch_for p k q c
  branch_held zero q c u l m n b = absurd (omega arith)
  branch_held (suc j) q c u l m n b =
      stretches.branch_held p all.outlined.lawful w _ all.holds j l q c m n b (omega (arith, place-room (shape_of p) (suc j) (q - 1) u l (omega arith)))

  -- ---- the root's best at an allowance
  root-best : (c : ℕ) → c ≤ p.tables.budget → root_best (shape_of p) w c ≡ start_best (book_for p) (items_for p) (loads_for p) c
  unfolding book_of
  root-best c fits =
      argmax-agree _ _ p.tables.book.states
      (λ s m. ap (guard (has_mark p.tables.book.starts.0 (suc s))) (branch_held 1 (suc s) c (omega arith) all.some (omega arith) m fits))

  -- is that of the tree
  pub root-cell : (c : ℕ) → c ≤ p.tables.budget → (root_best (shape_of p) w c).value ≡ best_at p c
  root-cell c fits =
      ap (λ (g : Greatest). g.value) (root-best c fits)
      ∙ sym (tree-cell (book_for p) (items_for p) (loads_for p) c (omega (arith, all.some, stretches.loads-long p all.outlined.lawful)))

  -- ---- the root's state
  module _ (b : Best) (eb : greatest_of b ≡ root_best (shape_of p) w p.tables.budget) where
    start-best : greatest_of b ≡ start_best (book_for p) (items_for p) (loads_for p) p.tables.budget
    start-best = eb ∙ root-best p.tables.budget (le_refl _)

    pub start-index : b.index ≡ (start_best (book_for p) (items_for p) (loads_for p) p.tables.budget).index
    start-index = ap (λ (g : Greatest). g.index) start-best

    pub start-value : b.value ≡ best_for p
    start-value = ap (λ (g : Greatest). g.value) eb ∙ root-cell p.tables.budget (le_refl _)

    module _ (found : b.value ≡ 0 → ⊥) where
      pub start-pos : 0 < (start_best (book_for p) (items_for p) (loads_for p) p.tables.budget).value
      start-pos = omega (arith, ap (λ (g : Greatest). g.value) start-best)

      pub start-used : b.index < p.tables.book.states
      unfolding book_of
      start-used =
          omega (arith, start-index, (start-found (book_for p) (items_for p) (loads_for p) p.tables.budget (omega (arith, all.some, stretches.loads-long p all.outlined.lawful)) start-pos).0)

      pub start-possible : 0 < branch_for p 1 (b.index + 1) p.tables.budget
      start-possible =
          rw (add-one, start-index)
          (root-part (book_for p) (items_for p) (loads_for p) p.tables.budget (omega (arith, all.some, stretches.loads-long p all.outlined.lawful)) start-pos all.outlined.lawful.loads.ordered).possible

  -- ---- a load, a state or stage, and an allowance
  module _ (j x c : ℕ) (l : suc j ≤ p.tables.loads.count) (lx : x < p.tables.book.states + p.tables.book.stages) (fits : c ≤ p.tables.budget) where
    below : FilledTo p w (place_of (shape_of p) (suc j) x)
    below = holds-less p w _ _ (omega (arith, place-room (shape_of p) (suc j) x (omega arith) l lx)) all.holds

    pub cell-reached : reached (shape_of p) o w (suc j) x c ≡ cell_of p (suc j) x c
    cell-reached = stretches.stretch-reached p all.outlined.lawful w j x l below o all.outlined c (omega arith)

    cell-small : held_in (cell_of p (suc j) x c) ≡ cell_of p (suc j) x c
    cell-small = go (dec_le p.tables.book.states x)
      where
        go : Dec (p.tables.book.states ≤ x) → held_in (cell_of p (suc j) x c) ≡ cell_of p (suc j) x c
        go (yes s) = rw (stretches.cell_row p (suc j) x c s) (held_same _ (stretches.row_small p all.outlined.lawful (suc j) _ c))
        go (no s) = rw (stretches.cell-branch p (suc j) x c (omega arith)) (held_same _ (stretches.branch-small p all.outlined.lawful j _ c))

    -- the cell holds what its rules reach
    pub cell-settled : cells_from w (place_of (shape_of p) (suc j) x) c ≡ reached (shape_of p) o w (suc j) x c
    cell-settled =
        ap held_in (all.holds.at (suc j) x c (omega arith) l lx fits (omega (arith, place-room (shape_of p) (suc j) x (omega arith) l lx)))
        ∙ cell-small ∙ sym cell-reached

    -- what is chosen by rule i, by whether it is a row rule
    abbrev by_if : Bool → ℕ → Choice
    by_if b i =
        choice_by (shape_of p) w (record { branch = b; load = suc j; item = item_in o (suc j); rest = pick b (sibling_in o (suc j)) (child_in o (suc j)) }) c i
        (rule_in o (pick {A = Rules} b (record { at = row_rules_at; count = get_or o (counts_at + 1) 0; from = x - p.tables.book.states + 1 }) (record { at = load_rules_at; count = get_or o counts_at 0; from = x + 1 })).at i)

    abbrev in_outline : Choice
    in_outline = choice_in (shape_of p) o w (joint_in (shape_of p) o (suc j) x) (rules_in (shape_of p) o x) c

    -- ---- a load's rule
    module _ (s : x < p.tables.book.states) (pos : 0 < branch_for p (suc j) (suc x) c) where
      abbrev index : ℕ
      index = (load_best (book_for p) (items_for p) (loads_for p) (suc j) (suc x) c).index

      load-used : index < p.tables.book.load_rules.count
      unfolding book_of
      load-used =
          let r = (load-reached (book_for p) (items_for p) (loads_for p) (suc j) (suc x) c pos).0 in
          let k = all.outlined.lawful.rules in
          omega (arith, r, rules-length p.tables.book.load_rules (omega (arith, k.few, k.full)))

      load-taken : rule_in o load_rules_at index ≡ load_rule (book_for p) (items_for p) (loads_for p) (suc j) (suc x) c
      unfolding book_of
      load-taken = all.outlined.rules.rule index load-used ∙ sym (rule-at p.tables.book.load_rules index load-used)

      pub load-chosen : in_outline ≡ load_choice p (suc j) (suc x) c
      unfolding choice_in load_choice
      load-chosen =
          ap₂ by_if (lt-leb p.tables.book.states x s) (ap (λ (g : Greatest). g.index) (stretches.branch-best p all.outlined.lawful w j x l below o all.outlined s c (omega arith)))
          ∙ ap₂ (λ (r : Transition) (i : Item). made r i (child_in o (suc j))) load-taken (all.outlined.item (suc j) (omega arith) l)
          ∙ ap (made (load_rule (book_for p) (items_for p) (loads_for p) (suc j) (suc x) c) (items_for p (suc j) (load_at (loads_for p) (suc j)))) (all.outlined.child (suc j) (omega arith) l)
        where
          made : Transition → Item → ℕ → Choice
          made r i m = record { rule = suc index; label = r.label; share = draw i r.label; rest = m; stage = r.to; left = c - draw i r.label }

    -- ---- a row's rule, and the allowance of its branch
    module _ (s : p.tables.book.states ≤ x) (g : ℕ) (eg : suc (x - p.tables.book.states) ≡ g) (pos : 0 < row_for p (suc j) g c) where
      abbrev number : ℕ
      number = (row_best (book_for p) (items_for p) (loads_for p) (suc j) g c).index

      row-used : number < p.tables.book.row_rules.count
      unfolding book_of
      row-used =
          let r = row-found (book_for p) (items_for p) (loads_for p) (suc j) g c (omega arith) pos in
          let k = all.outlined.lawful.rows in
          omega (arith, r, rules-length p.tables.book.row_rules (omega (arith, k.few, k.full)))

      abbrev taken : Transition
      taken = row_rule (book_for p) (items_for p) (loads_for p) (suc j) g c

      row-taken : rule_in o row_rules_at number ≡ taken
      unfolding book_of
      row-taken = all.outlined.rows.rule number row-used ∙ sym (rule-at p.tables.book.row_rules number row-used)

      share-best : shares (held_branch (shape_of p) w (suc j) taken.label) (held_row (shape_of p) w (next_sibling (loads_for p) (suc j)) taken.to) c
          ≡ share_best (book_for p) (items_for p) (loads_for p) (suc j) g c
      unfolding book_of
      share-best =
          let k = all.outlined.lawful.rows in
          let n : number < length (rules_of p.tables.book.row_rules) = omega (arith, row-used, rules-length p.tables.book.row_rules (omega (arith, k.few, k.full))) in
          let r = rule-label k number n in
          let t = rule-to k number n in
          shares-agree _ _ _ _ c (λ a h. branch_held (suc j) taken.label a (omega arith) l r.0 r.1 (le_trans h fits))
          (λ a h. row-held (next_sibling (loads_for p) (suc j)) taken.to a next-in t.0 t.1 (le_trans h fits))
        where
          next-in : next_sibling (loads_for p) (suc j) ≤ p.tables.loads.count
          next-in = go (after-above (loads_for p) (load_at (loads_for p) (suc j)).parent (suc j))
            where
              go : (next_sibling (loads_for p) (suc j) ≡ 0) ⊎ ((suc j < next_sibling (loads_for p) (suc j)) × (next_sibling (loads_for p) (suc j) ≤ length (loads_for p)))
                  → next_sibling (loads_for p) (suc j) ≤ p.tables.loads.count
              go (inl e) = omega arith
              go (inr e) = omega (arith, e.1, stretches.loads-long p all.outlined.lawful)

      pub row-chosen : in_outline ≡ row_choice p (suc j) g c
      unfolding choice_in row_choice
      row-chosen =
          ap₂ by_if (le-leb p.tables.book.states x s)
          (ap (λ (g : Greatest). g.index) (stretches.row-best p all.outlined.lawful w j x l below o all.outlined s c (omega arith))
          ∙ ap (λ z. (row_best (book_for p) (items_for p) (loads_for p) (suc j) z c).index) eg)
          ∙ ap₂ (λ (r : Transition) (m : ℕ). made r m (split r m)) row-taken (all.outlined.sibling (suc j) (omega arith) l)
          ∙ ap (made taken (next_sibling (loads_for p) (suc j))) (ap (λ (z : Greatest). z.index) share-best)
        where
          split : Transition → ℕ → ℕ
          split r m = (shares (held_branch (shape_of p) w (suc j) r.label) (held_row (shape_of p) w m r.to) c).index

          made : Transition → ℕ → ℕ → Choice
          made r m a = record { rule = suc number; label = r.label; share = a; rest = m; stage = r.to; left = c - a }

-- what `choose` promises of its answer d for load k and state or stage x with allowance c
abbrev pub Promised : Shape → (o w : List ℕ) → (k x c : ℕ) → Option Choice → Type 0
Promised sh o w k x c d =
    cells_from w (place_of sh k x) c ≡ reached sh o w k x c → 0 < reached sh o w k x c → d ≡ Some (choice_in sh o w (joint_in sh o k x) (rules_in sh o x) c)

-- of the shape at hand
module _ (p : Problem) (sh : Shape) (o w : List ℕ) (all : Complete p sh o w) where
  pub whole : Complete p (shape_of p) o w
  whole = subst (λ (y : Shape). Complete p y o w) all.outlined.shape all

  pub budget-is : sh.budget ≡ p.tables.budget
  budget-is = ap (λ (y : Shape). y.budget) all.outlined.shape

  module _ (j x c : ℕ) (l : suc j ≤ p.tables.loads.count) (fits : c ≤ p.tables.budget) (d : Option Choice) (h : Promised sh o w (suc j) x c d) where
    own : Promised (shape_of p) o w (suc j) x c d
    own = subst (λ (y : Shape). Promised y o w (suc j) x c d) all.outlined.shape h

    pub load_is : x < p.tables.book.states → 0 < branch_for p (suc j) (suc x) c → d ≡ Some (load_choice p (suc j) (suc x) c)
    load_is s pos =
        own (cell-settled p o w whole j x c l (omega arith) fits)
        (rw (cell-reached p o w whole j x c l (omega arith) fits, stretches.cell-branch p (suc j) x c s) pos)
        ∙ ap Some (load-chosen p o w whole j x c l (omega arith) fits s pos)

    pub row_is : (g : ℕ) → 0 < g → g ≤ p.tables.book.stages → x ≡ p.tables.book.states + (g - 1) → 0 < row_for p (suc j) g c → d ≡ Some (row_choice p (suc j) g c)
    row_is g low high ex pos =
        let s : p.tables.book.states ≤ x = omega arith in
        let lx : x < p.tables.book.states + p.tables.book.stages = omega arith in
        let eg : suc (x - p.tables.book.states) ≡ g = omega arith in
        own (cell-settled p o w whole j x c l lx fits)
        (rw (cell-reached p o w whole j x c l lx fits, stretches.cell_row p (suc j) x c s, eg) pos)
        ∙ ap Some (row-chosen p o w whole j x c l lx fits s g eg pos)
