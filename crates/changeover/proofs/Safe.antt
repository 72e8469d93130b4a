-- What is on while loads are switched over is carried, where both sets are. Assumes nothing.
use Prim.Native.Nat.{ℕ, zero, suc, ◌+◌, ◌-◌, ◌≤◌, ◌<◌}
use mathlib.Core.Path.{◌≡◌, refl, sym, subst, ◌∙◌}
use mathlib.Core.Bool.{Bool, true, false, ◌&&◌, ◌||◌, not}
use mathlib.Core.List.{List, [], ◌∷◌}
use mathlib.Core.Logic.{◌⊎◌, inl, inr, ⊎_elim, ◌↔◌}
use native.Mathlib.Omega.{arith}
use borrow.Author.Tests.{leb-true, le-leb, lt-leb, eqb-true, eq-eqb}
use lib.Dec.{eqb, leb}
use lib.ListN.{length, get_or}
use Rattle.lists.specs.Tests.{pick, every_from}
use Rattle.lists.specs.Argmax.{guard}
use Rattle.lists.proofs.Bools.{and_left, and_right, and-true, or-true, below_or}
use Rattle.lists.proofs.Tests.{from_at, from_each}
use Rattle.tables.specs.declared.load.Load.{Load}
use Rattle.tables.specs.Tables.{Tables, no_load}
use Rattle.tables.specs.Limits.{Limits}
use Rattle.tables.proofs.Lawful.{lawful, inside}
use Rattle.meaning.specs.Forest.{sum}
use Rattle.meaning.specs.Sets.{counted, power}
use Rattle.calls.specs.Rows.{is_load}
use Rattle.calls.proofs.Work.{clash}
use Rattle.changeover.specs.Sets.{mark_by, is_fed, all_fed, carries}
use Rattle.changeover.specs.Claims.{Safe}
use Rattle.changeover.proofs.Phases.{phase}

-- ---- fewer loads draw no more
sum_less : (f g : ℕ → Load → ℕ) → ((k : ℕ) (l : Load) → f k l ≤ g k l) → (ls : List Load) (k : ℕ) → sum f ls k ≤ sum g ls k
unfolding sum
sum_less f g h [] k = omega arith
sum_less f g h (l ∷ ls) k = omega (arith, h k l, sum_less f g h ls (suc k))

counted-less : (a b : Bool) (x : ℕ) → (a ≡ true → b ≡ true) → counted (guard a 1) x ≤ counted (guard b 1) x
counted-less true true x h = omega arith
counted-less true false x h = absurd (clash (sym (h refl)))
counted-less false b x h = omega arith

power-less : (t : Tables) (on more : ℕ → Bool) → ((k : ℕ) → on k ≡ true → more k ≡ true) → power t (mark_by on) ≤ power t (mark_by more)
power-less t on more h =
    sum_less (λ k l. counted (mark_by on k) l.power) (λ k l. counted (mark_by more k) l.power) (λ k l. counted-less (on k) (more k) l.power (h k)) t.loads 1

module _ (t : Tables) (limits : Limits t) where
  abbrev parent : ℕ → ℕ
  parent k = (get_or t.loads (k - 1) no_load).parent

  -- the parent of a load other than the root is a load before it
  parent-before : (k : ℕ) → is_load t k ≡ true → (k ≡ 1 → ⊥) → (0 < parent k) × (parent k < k)
  parent-before k there d =
      let r = inside 1 (length t.loads) k there in
      let fits = (lawful t limits).load (k - 1) (omega (arith, r)) in
      let e : suc (k - 1) ≡ k = omega (arith, r) in
      let later : 1 < k = go k r.0 d in
      (fits.later (omega (arith, later)), omega (arith, fits.parent, e))
    where
      go : (k : ℕ) → 1 ≤ k → (k ≡ 1 → ⊥) → 1 < k
      go zero l d = absurd (omega (arith, l))
      go (suc zero) l d = absurd (d refl)
      go (suc (suc k)) l d = omega arith

  -- ---- the test of a set
  one-fed : (on : ℕ → Bool) (k : ℕ) (l : Load) → is_fed on k l ≡ true → on k ≡ true → (l.parent ≡ 0) ⊎ (on l.parent ≡ true)
  unfolding is_fed
  one-fed on k l h e = go (eqb l.parent 0) refl (rw e at h)
    where
      go : (b : Bool) → eqb l.parent 0 ≡ b → b || on l.parent ≡ true → (l.parent ≡ 0) ⊎ (on l.parent ≡ true)
      go true p h = inl (eqb-true l.parent 0 p)
      go false p h = inr h

  is_carried : (on : ℕ → Bool) → carries t on ≡ true → Safe t on
  unfolding carries all_fed
  is_carried on h =
      let fed = and_right (leb (power t (mark_by on)) t.budget) (every_from (is_fed on) 1 t.loads) h in
      record {
        power = leb-true (power t (mark_by on)) t.budget (and_left (leb (power t (mark_by on)) t.budget) (every_from (is_fed on) 1 t.loads) h);
        fed = λ k there e. go k there (one-fed on k (get_or t.loads (k - 1) no_load) (from_at no_load (is_fed on) 1 t.loads fed (k - 1) (omega (arith, inside 1 (length t.loads) k there)) k (omega (arith, inside 1 (length t.loads) k there))) e) (eqb k 1) refl;
      }
    where
      go : (k : ℕ) → is_load t k ≡ true → (parent k ≡ 0) ⊎ (on (parent k) ≡ true) → (b : Bool) → eqb k 1 ≡ b → (k ≡ 1) ⊎ (on (parent k) ≡ true)
      go k there (inr h) b e = inr h
      go k there (inl z) true e = inl (eqb-true k 1 e)
      go k there (inl z) false e = absurd (omega (arith, (parent-before k there (ne k e)).0, z))
        where
          ne : (k : ℕ) → eqb k 1 ≡ false → k ≡ 1 → ⊥
          ne k e is = clash (sym (eq-eqb k 1 is) ∙ e)

  fed-one : (on : ℕ → Bool) (k : ℕ) (l : Load) → (on k ≡ true → (l.parent ≡ 0) ⊎ (on l.parent ≡ true)) → is_fed on k l ≡ true
  unfolding is_fed
  fed-one on k l h = go (on k) refl
    where
      on_or : (a b : Bool) → b ≡ true → a || b ≡ true
      on_or a b e = rw e (or-true a)

      go : (b : Bool) → on k ≡ b → not b || eqb l.parent 0 || on l.parent ≡ true
      go false e = refl
      go true e = ⊎_elim (λ z. rw (eq-eqb l.parent 0 z) refl) (λ q. on_or (eqb l.parent 0) (on l.parent) q) (h e)

  carried-is : (on : ℕ → Bool) → Safe t on → carries t on ≡ true
  unfolding carries all_fed
  carried-is on c =
      and-true (leb (power t (mark_by on)) t.budget) (every_from (is_fed on) 1 t.loads) (le-leb (power t (mark_by on)) t.budget c.power)
      (from_each no_load (is_fed on) 1 t.loads (λ i l m is. fed-one on m (get_or t.loads i no_load) (λ e. go i m is l (c.fed m (there i m is l) e))))
    where
      there : (i m : ℕ) → m ≡ i + 1 → i < length t.loads → is_load t m ≡ true
      there i m is l = and-true (leb 1 m) (leb m (length t.loads)) (le-leb 1 m (omega (arith, is))) (le-leb m (length t.loads) (omega (arith, is, l)))

      go : (i m : ℕ) → m ≡ i + 1 → i < length t.loads → (m ≡ 1) ⊎ (on (parent m) ≡ true) → ((get_or t.loads i no_load).parent ≡ 0) ⊎ (on (get_or t.loads i no_load).parent ≡ true)
      go i m is l (inl one) = let z : i ≡ 0 = omega (arith, is, one) in inl (omega (arith, ((lawful t limits).load i l).parent, z))
      go i m is l (inr h) = let e : m - 1 ≡ i = omega (arith, is) in inr (subst (λ j. on (get_or t.loads j no_load).parent ≡ true) e h)

  pub carried-exactly : (on : ℕ → Bool) → (carries t on ≡ true) ↔ Safe t on
  carried-exactly on = (is_carried on, carried-is on)

  -- ---- every phase
  module _ (old new : ℕ → Bool) (o : Safe t old) (w : Safe t new) where
    pub phase-carried : (low : ℕ → Bool) → Safe t low → ((j : ℕ) → old j && new j ≡ true → low j ≡ true) → (k : ℕ) → Safe t (phase old new low k)
    phase-carried low c shared k = record {
      power = omega (arith, power-less t (phase old new low k) low in-low, c.power);
      fed = λ j there e. fed j there (eqb j 1) refl e;
    }
      where
        in-low : (j : ℕ) → phase old new low k j ≡ true → low j ≡ true
        in-low j = go (leb j k)
          where
            go : (b : Bool) → pick b (low j) (old j && new j) ≡ true → low j ≡ true
            go true h = h
            go false h = shared j h

        -- the parent is on in a set that has the load on
        above : (on : ℕ → Bool) → Safe t on → (j : ℕ) → is_load t j ≡ true → (j ≡ 1 → ⊥) → on j ≡ true → on (parent j) ≡ true
        above on x j there d e = ⊎_elim (λ one. absurd (d one)) (λ h. h) (x.fed j there e)

        fed : (j : ℕ) → is_load t j ≡ true → (b : Bool) → eqb j 1 ≡ b → phase old new low k j ≡ true → (j ≡ 1) ⊎ (phase old new low k (parent j) ≡ true)
        fed j there true one e = inl (eqb-true j 1 one)
        fed j there false other e = inr (go (below_or k (parent j)))
          where
            d : j ≡ 1 → ⊥
            d is = clash (sym (eq-eqb j 1 is) ∙ other)

            -- above load k the load is in both sets, and so is its parent
            both : k < parent j → old (parent j) && new (parent j) ≡ true
            both l =
                let h : old j && new j ≡ true = rw (lt-leb j k (omega (arith, l, (parent-before j there d).1))) at e in
                and-true (old (parent j)) (new (parent j)) (above old o j there d (and_left (old j) (new j) h)) (above new w j there d (and_right (old j) (new j) h))

            go : (k < parent j) ⊎ (parent j ≤ k) → phase old new low k (parent j) ≡ true
            go (inl l) = rw (lt-leb (parent j) k l) (both l)
            go (inr l) = rw (le-leb (parent j) k l) (above low c j there d (in-low j e))
