-- A load that leaves: the numbers that fall, one load fewer, and in an array the change on paper. Assumes nothing.
use Prim.Native.Nat.{ℕ, zero, suc, min, ◌+◌, ◌-◌, ◌≤◌, ◌<◌}
use mathlib.Core.Path.{◌≡◌, refl, sym, ap, ap₂, ◌∙◌}
use mathlib.Core.Bool.{Bool, true, false}
use mathlib.Core.List.{List, [], ◌∷◌, ◌++◌, map, append-nil}
use native.Mathlib.Decide.{dec_lt}
use native.Mathlib.Omega.{arith}
use borrow.Author.Tests.{ltb-true, ltb-false, le-leb, lt-leb}
use lib.Dec.{ltb}
use lib.ListN.{length, get_or, set, take, drop, length-map, length-append, length-take, length-drop, drop_of_length-le, get_or-eq_default, get_or-map}
use lib.Seq.{get_or-drop, take_all, paste, paste-zero, paste-suc}
use Rattle.lists.specs.Tests.{pick}
use Rattle.lists.proofs.Bools.{and-false}
use Rattle.lists.proofs.Arrays.{get_or-end, length-laid, laid-without}
use Rattle.marks.specs.Bits.{within}
use Rattle.marks.proofs.Laws.{within-over, within-true}
use Rattle.tables.specs.declared.load.LoadList.{LoadList}
use Rattle.tables.specs.Tables.{Load, Tables, no_load}
use Rattle.tables.specs.Limits.{Limits}
use Rattle.tables.specs.Stored.{stored_loads, places_of, stored}
use Rattle.tables.specs.Changes.{fallen, reparented, remaining, drop_load}
use Rattle.tables.specs.Operations.{load_at, moved_down, put_loads, load_removed, load_dropped}
use Rattle.tables.proofs.Lawful.{lawful}
use Rattle.tables.proofs.Changes.{load-in, load-out}

-- ---- numbers: those up to k stay, those above fall by one; as a sum, so that omega reads it
pub fallen-value : (k n : ℕ) → fallen k n + min 1 (n - k) ≡ n
fallen-value k n = go (ltb k n) refl
  where
    go : (t : Bool) → ltb k n ≡ t → pick t (n - 1) n + min 1 (n - k) ≡ n
    go true e = omega (arith, ltb-true k n e)
    go false e = omega (arith, ltb-false k n e)

-- a load whose parent is not above k stays as it is, and so does what an unused place holds
pub same-parent : (k : ℕ) (l : Load) → l.parent ≤ k → reparented k l ≡ l
same-parent k l h = ap (λ (p : ℕ). record { parent = p; kind = l.kind; power = l.power; worth = l.worth }) (omega (arith, fallen-value k l.parent))

still-none : (k : ℕ) → reparented k no_load ≡ no_load
still-none k = same-parent k no_load (omega arith)

-- ---- one load fewer
pub one_fewer : (k : ℕ) (ls : List Load) → 1 ≤ k → k ≤ length ls → length (remaining k ls) + 1 ≡ length ls
unfolding remaining
one_fewer k ls one most =
    omega (
      arith,
      length-map (take (k - 1) ls ++ drop k ls) (reparented k),
      length-append (take (k - 1) ls) (drop k ls),
      length-take (k - 1) ls,
      length-drop k ls,
    )

-- ---- in an array
-- what it holds when the places below i hold what they will, and the others what they did
abbrev pub came_to : LoadList → (k i : ℕ) → List Load
came_to l k i = paste l.items (k - 1) (moved_down k l.items) (i - (k - 1))

-- the turns of a loop from place k - 1 on
module _ (n : ℕ) (l : LoadList) (k : ℕ) (full : places_of l ≡ n) (one : 1 ≤ k) (most : k ≤ n) where
  length_moved : length (moved_down k l.items) ≡ n - (k - 1)
  length_moved =
      omega (arith, length-append (map (reparented k) (drop k l.items)) (no_load ∷ []), length-map (drop k l.items) (reparented k), length-drop k l.items)

  -- a number past the array reads an unused place, as the array does
  load_here : (j : ℕ) → get_or l.items j no_load ≡ load_at l (suc j)
  load_here j = go (dec_lt j n)
    where
      go : Dec (j < n) → get_or l.items j no_load ≡ load_at l (suc j)
      go (yes b) = let e : suc j - 1 ≡ j = omega arith in rw e at (load-in n l (suc j) full (λ e. absurd (omega arith)) b)
      go (no b) = get_or-eq_default l.items no_load (omega arith) ∙ load-out n l (suc j) full (within-over n (suc j) (omega arith))

  moved_here : (j : ℕ) → get_or (moved_down k l.items) j no_load ≡ reparented k (load_at l (suc (k + j)))
  moved_here j =
      let f = reparented k in
      get_or-end no_load (map f (drop k l.items)) j
      ∙ ap (get_or (map f (drop k l.items)) j) (sym (still-none k))
      ∙ get_or-map f (drop k l.items) j no_load
      ∙ ap f (get_or-drop k l.items j no_load ∙ load_here (k + j))

  pub none_came : l.items ≡ came_to l k (k - 1)
  none_came = let e : k - 1 - (k - 1) ≡ 0 = omega arith in rw e (paste-zero l.items (k - 1) (moved_down k l.items))

  pub next-came : (i : ℕ) {items : List Load} {x : Load} → k - 1 ≤ i → i < n → items ≡ came_to l k i → x ≡ reparented k (load_at l (i + 2)) → set items i x ≡ came_to l k (i + 1)
  next-came i low high came got =
      let s = moved_down k l.items in
      let j = i - (k - 1) in
      let at : k - 1 + j ≡ i = omega arith in
      let number : suc (k + j) ≡ i + 2 = omega arith in
      let more : suc j ≡ i + 1 - (k - 1) = omega arith in
      ap₂ (λ (xs : List Load) (y : Load). set xs i y) came (got ∙ ap (λ (m : ℕ). reparented k (load_at l m)) (sym number) ∙ sym (moved_here j))
      ∙ ap (λ (m : ℕ). set (came_to l k i) m (get_or s j no_load)) (sym at)
      ∙ paste-suc l.items (k - 1) s j no_load (omega arith) (omega (arith, length_moved))
      ∙ ap (paste l.items (k - 1) s) more

  pub all-came : take (k - 1) l.items ++ moved_down k l.items ≡ came_to l k n
  all-came =
      let s = moved_down k l.items in
      rw (take_all (n - (k - 1)) s (omega (arith, length_moved)), drop_of_length-le l.items {i = k - 1 + (n - (k - 1))} (omega arith), append-nil)

-- the ways out of the code
module _ (n : ℕ) (l : LoadList) (k : ℕ) (full : places_of l ≡ n) where
  pub removed-in : (k ≡ 0 → ⊥) → k ≤ n → k ≤ l.count → record { items = take (k - 1) l.items ++ moved_down k l.items; count = l.count - 1 } ≡ load_removed l k
  unfolding load_removed
  removed-in some h there = rw (full, within-true n k some h, le-leb k l.count there)

  pub removed-out : within n k ≡ false → l ≡ load_removed l k
  unfolding load_removed
  removed-out h = rw (full, h)

  pub removed-past : l.count < k → l ≡ load_removed l k
  unfolding load_removed
  removed-past h = rw (lt-leb k l.count h, and-false (within (places_of l) k))

-- on paper
removed-stored : (n k : ℕ) (ls : List Load) → 1 ≤ k → k ≤ length ls → length ls ≤ n → ((i : ℕ) → i < length ls → (get_or ls i no_load).parent ≤ i)
    → load_removed (stored_loads n ls) k ≡ stored_loads n (remaining k ls)
unfolding remaining
removed-stored n zero ls one most few before = absurd (omega arith)
removed-stored n (suc j) ls one most few before =
    let kept : (i : ℕ) → i < j → reparented (suc j) (get_or ls i no_load) ≡ get_or ls i no_load =
    λ i b. same-parent (suc j) (get_or ls i no_load) (omega (arith, before i (omega arith))) in
    let items = laid-without (reparented (suc j)) no_load (still-none (suc j)) n j ls most few kept in
    let place : suc j - 1 ≡ j = omega arith in
    let fewer = rw place at (one_fewer (suc j) ls one most) in
    let count : length ls - 1 ≡ length (map (reparented (suc j)) (take j ls ++ drop (suc j) ls)) = omega arith in
    rw (← removed-in n (stored_loads n ls) (suc j) (length-laid no_load n ls) (λ e. absurd (omega arith)) (omega arith) most, place) (λ i. record { items = items i; count = count i })

module _ (t : Tables) (h : Limits t) where
  pub load-dropped : (k : ℕ) → 1 ≤ k → k ≤ length t.loads → load_dropped (stored t) k ≡ stored (drop_load t k)
  unfolding load_dropped stored
  load-dropped k one most =
      ap (put_loads (stored t))
      (removed-stored t.places k t.loads one most (lawful t h).loads (λ i b. omega (arith, ((lawful t h).load i b).parent)))
