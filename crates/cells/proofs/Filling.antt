-- From a cell's place in the work to its load, state or stage, and allowance; and one stretch after another is filled.
-- Assumes nothing.
use Prim.Native.Nat.{ℕ, zero, suc, ◌+◌, ◌-◌, ◌*◌, ◌/◌, ◌%◌, ◌≤◌, ◌<◌, min}
use mathlib.Core.Path.{◌≡◌, refl, sym, ap, ◌∙◌}
use mathlib.Core.List.{List}
use native.Mathlib.Nat.{mul-le-mul_right, add-mul, mul-zero, zero-mul, mod-lt, div-add-mod', div-lt_iff_lt-mul, min-le_left}
use native.Mathlib.Omega.{arith}
use native.Mathlib.Decide.{dec_lt}
use lib.ListN.{length, get_or, take, drop, length-take, length-drop}
use lib.Seq.{get_or-take, get_or-drop, ext_get_or}
use Rattle.cells.specs.declared.problem.Problem.{Problem}
use Rattle.cells.specs.declared.problem.Shape.{Shape}
use Rattle.cells.specs.Problem.{shape_of}
use Rattle.cells.specs.Work.{place_of, cells_needed, cell_of, FilledTo, Filled}
use Rattle.cells.specs.Outline.{Outlines}
use Rattle.cells.specs.Stretch.{Worked, FilledBy}
use Rattle.cells.proofs.Stretches.{stretch-reached, stretch-sound}

-- the quotient is known from the number
quotient : (n u v a b : ℕ) → a < n → b < n → u * n + a ≡ v * n + b → u ≡ v
quotient n u v a b la lb e = go (dec_lt u v) (dec_lt v u)
  where
    less : (u v a b : ℕ) → a < n → u < v → u * n + a ≡ v * n + b → ⊥
    less u v a b l h e =
        let h' : u + 1 ≤ v = omega arith in
        let m = rw (add-mul u 1 n) at (mul-le-mul_right n h') in
        omega arith

    go : Dec (u < v) → Dec (v < u) → u ≡ v
    go (yes h) k = absurd (less u v a b la h e)
    go (no h) (yes k) = absurd (less v u b a lb k (sym e))
    go (no h) (no k) = omega arith

module _ (sh : Shape) where
  -- two cells at one place are the same cell
  pub same-cell : (k k' x x' a a' : ℕ) → k ≤ sh.loads → k' ≤ sh.loads → x < sh.states + sh.stages → x' < sh.states + sh.stages → a ≤ sh.budget → a' ≤ sh.budget
      → place_of sh k x + a ≡ place_of sh k' x' + a' → (k ≡ k') × (x ≡ x') × (a ≡ a')
  unfolding place_of
  same-cell k k' x x' a a' lk lk' lx lx' la la' e =
      let r : (sh.loads - k) * (sh.states + sh.stages) + x ≡ (sh.loads - k') * (sh.states + sh.stages) + x' = quotient (sh.budget + 1) _ _ a a' (omega arith) (omega arith) e in
      let q : sh.loads - k ≡ sh.loads - k' = quotient (sh.states + sh.stages) _ _ x x' lx lx' r in
      let r' = ap (λ z. z * (sh.budget + 1)) r in
      let q' = ap (λ z. z * (sh.states + sh.stages)) q in
      (omega arith, omega arith, omega arith)

  module _ (i : ℕ) (h : i < cells_needed sh) where
    pub across-pos : 0 < sh.states + sh.stages
    across-pos = go (dec_lt 0 (sh.states + sh.stages))
      where
        go : Dec (0 < sh.states + sh.stages) → 0 < sh.states + sh.stages
        go (yes l) = l
        go (no l) =
            let z : sh.states + sh.stages ≡ 0 = omega arith in
            let e = ap (λ y. sh.loads * y * (sh.budget + 1)) z ∙ ap (λ y. y * (sh.budget + 1)) (mul-zero sh.loads) ∙ zero-mul (sh.budget + 1) in
            absurd (omega arith)

    rank_lt : i / (sh.budget + 1) < sh.loads * (sh.states + sh.stages)
    rank_lt = (div-lt_iff_lt-mul {k = sh.budget + 1} {x = i} (omega arith)).1 h

    pub load_lt : i / (sh.budget + 1) / (sh.states + sh.stages) < sh.loads
    load_lt = (div-lt_iff_lt-mul {k = sh.states + sh.stages} {x = i / (sh.budget + 1)} across-pos).1 rank_lt

    pub index-lt : i / (sh.budget + 1) % (sh.states + sh.stages) < sh.states + sh.stages
    index-lt = mod-lt (i / (sh.budget + 1)) across-pos

    pub allowance-lt : i % (sh.budget + 1) < sh.budget + 1
    allowance-lt = mod-lt i (omega arith)

    pub place_at : i - i % (sh.budget + 1)
        ≡ place_of sh (sh.loads - i / (sh.budget + 1) / (sh.states + sh.stages)) (i / (sh.budget + 1) % (sh.states + sh.stages))
    unfolding place_of
    place_at =
        let e : sh.loads - (sh.loads - i / (sh.budget + 1) / (sh.states + sh.stages)) ≡ i / (sh.budget + 1) / (sh.states + sh.stages) = omega (arith, load_lt) in
        let d = div-add-mod' i (sh.budget + 1) in
        let r = div-add-mod' (i / (sh.budget + 1)) (sh.states + sh.stages) in
        let t : i - i % (sh.budget + 1) ≡ i / (sh.budget + 1) * (sh.budget + 1) = omega arith in
        t ∙ ap (λ z. z * (sh.budget + 1)) (sym r) ∙ ap (λ z. (z * (sh.states + sh.stages) + i / (sh.budget + 1) % (sh.states + sh.stages)) * (sh.budget + 1)) (sym e)

module _ (p : Problem) where
  -- no cell is asked for
  pub holds-none : (w : List ℕ) → FilledTo p w 0
  holds-none w = record { at = λ k x a b1 b2 b3 b4 l. absurd (omega arith) }

  pub holds-less : (w : List ℕ) (i j : ℕ) → i ≤ j → FilledTo p w j → FilledTo p w i
  holds-less w i j l h = record { at = λ k x a b1 b2 b3 b4 m. h.at k x a b1 b2 b3 b4 (omega arith) }

  pub filled_none : (w : List ℕ) (i : ℕ) → Filled p w w i i
  filled_none w i = record { below = λ j l. refl; above = λ j l. refl; holds = λ h. h }

  pub filled-then : {w v u : List ℕ} {from i to : ℕ} → from ≤ i → i ≤ to → Filled p w v from i → Filled p v u i to → Filled p w u from to
  filled-then l m f g = record {
    below = λ j n. g.below j (omega arith) ∙ f.below j n;
    above = λ j n. g.above j n ∙ f.above j (omega arith);
    holds = λ h. g.holds (f.holds h);
  }

  -- the cells before those filled and the cells past them, as lists
  pub filled-front : {w v : List ℕ} {from to : ℕ} → Filled p w v from to → length v ≡ length w → take from v ≡ take from w
  filled-front {w} {v} {from} {to} f e =
      ext_get_or 0 (take from v) (take from w) (length-take from v ∙ ap (min from) e ∙ sym (length-take from w))
      (λ i l.
      let h : i < from = omega (arith, length-take from v, min-le_left from (length v)) in
      get_or-take from v i 0 h ∙ f.below i h ∙ sym (get_or-take from w i 0 h))

  pub filled-rest : {w v : List ℕ} {from to : ℕ} → Filled p w v from to → length v ≡ length w → drop to v ≡ drop to w
  filled-rest {w} {v} {from} {to} f e =
      ext_get_or 0 (drop to v) (drop to w) (length-drop to v ∙ ap (λ z. z - to) e ∙ sym (length-drop to w))
      (λ i l. get_or-drop to v i 0 ∙ f.above (to + i) (omega arith) ∙ sym (get_or-drop to w i 0))

  -- a stretch whose cells are worked out is filled
  module _ (o : List ℕ) (d : Outlines p (shape_of p) o) (w v : List ℕ) (j x from to : ℕ) (lk : suc j ≤ (shape_of p).loads)
      (lx : x < (shape_of p).states + (shape_of p).stages) (le : to ≤ (shape_of p).budget + 1) (done : Worked (shape_of p) o w v (suc j) x from to) where
    abbrev at : ℕ
    at = place_of (shape_of p) (suc j) x

    cells : FilledTo p w at → (a : ℕ) → from ≤ a → a < to → get_or v (at + a) 0 ≡ cell_of p (suc j) x a
    cells h a l m =
        done.inside (stretch-sound p d.lawful w j x lk h o d to le) a l m ∙ stretch-reached p d.lawful w j x lk h o d a (omega arith)

    stretch-filled : Filled p w v (at + from) (at + to)
    stretch-filled = record {
      below = done.below;
      above = done.above;
      holds = λ h. record { at = λ k' x' a' b1 b2 b3 b4 m. go h k' x' a' b1 b2 b3 b4 m (dec_lt (place_of (shape_of p) k' x' + a') (at + from)) };
    }
      where
        go : FilledTo p w (at + from) → (k' x' a' : ℕ) → 0 < k' → k' ≤ (shape_of p).loads → x' < (shape_of p).states + (shape_of p).stages
            → a' ≤ (shape_of p).budget → place_of (shape_of p) k' x' + a' < at + to → Dec (place_of (shape_of p) k' x' + a' < at + from)
            → get_or v (place_of (shape_of p) k' x' + a') 0 ≡ cell_of p k' x' a'
        go h k' x' a' b1 b2 b3 b4 m (yes b) = done.below _ b ∙ h.at k' x' a' b1 b2 b3 b4 (omega arith)
        go h k' x' a' b1 b2 b3 b4 m (no b) =
            let y = place_of (shape_of p) k' x' + a' - at in
            let z : place_of (shape_of p) k' x' + a' ≡ at + y = omega arith in
            let q = same-cell (shape_of p) (suc j) k' x x' y a' lk b2 lx b3 (omega arith) b4 (omega arith) in
            ap (λ i. get_or v i 0) z ∙ cells (holds-less w _ _ (omega arith) h) y (omega arith) (omega arith)
            ∙ ap (λ t. cell_of p t x y) q.0 ∙ ap (λ t. cell_of p k' t y) q.1 ∙ ap (λ t. cell_of p k' x' t) q.2

-- whatever problem the outline is of
pub worked-filled : (sh : Shape) (o w v : List ℕ) (k x from to : ℕ) → 0 < k → k ≤ sh.loads → x < sh.states + sh.stages → to ≤ sh.budget + 1
    → Worked sh o w v k x from to → FilledBy sh o w v (place_of sh k x + from) (place_of sh k x + to)
worked-filled sh o w v zero x from to low lk lx le done p d = absurd (omega arith)
worked-filled sh o w v (suc j) x from to low lk lx le done p d =
    rw d.shape (stretch-filled p o (rw d.shape at d) w v j x from to (rw d.shape at lk) (rw d.shape at lx) (rw d.shape at le) (rw d.shape at done))
