-- The list while steps are written to it: those written so far, and behind them what stood there. Assumes nothing.
use Prim.Native.Nat.{ℕ, zero, suc, ◌+◌, ◌≤◌, ◌<◌}
use mathlib.Core.Path.{◌≡◌, refl, sym, ap, ap₂, subst, ◌∙◌}
use mathlib.Core.Bool.{true, false, ◌&&◌}
use mathlib.Core.List.{List, [], ◌∷◌}
use native.Mathlib.Numerals.{add-one}
use native.Mathlib.Omega.{arith}
use borrow.Author.Tests.{ltb-false}
use lib.Dec.{eqb, leb, ltb}
use lib.ListN.{length, get_or, set, take, length-append}
use lib.Seq.{sets, take_all}
use Rattle.std.specs.Prelude.{Result, Ok, Err}
use Rattle.lists.proofs.Arrays.{get_or-laid}
use Rattle.lists.proofs.Bools.{and_left, and_right}
use Rattle.tables.specs.Tables.{Tables}
use Rattle.tables.specs.Limits.{max_loads, limits, Limits}
use Rattle.tables.specs.Stored.{tables_of, keeps_limits, rules_free, loads_free}
use Rattle.tables.specs.Operations.{accepted}
use Rattle.tables.specs.declared.refusal.Refusal.{Refusal}
use Rattle.tables.specs.Refusals as no
use Rattle.tables.specs.Refusals.{number_of, told}
use Rattle.tables.proofs.Lawful.{lawful}
use Rattle.meaning.specs.Cells.{cells_of}
use Rattle.runs.specs.Outcome.{held_range, keeps_outcome}
use Rattle.calls.specs.State.{StoredState, state_of, keeps}
use Rattle.calls.proofs.Numbers.{passed, passed-not}
use Rattle.changeover.specs.declared.order.Step.{Step}
use Rattle.changeover.specs.declared.order.Order.{Order}
use Rattle.changeover.specs.Sets.{is_set, on_by, carries}
use Rattle.changeover.specs.Steps.{no_step, off_steps, on_steps}
use Rattle.changeover.specs.Order.{laid_order}
use Rattle.changeover.specs.Changeover.{steps_of, refusal_of, steps_given, order_of, changed_to, changeover}
use Rattle.changeover.proofs.Lengths.{steps-few}

-- ---- one more stored behind those that were
pub sets-next : {A : Type 0} (d : A) (l : List A) (k j : ℕ) (i : ℕ) (xs : List A) → k + i ≡ j → i < length xs → set (sets l k (take i xs)) j (get_or xs i d) ≡ sets l k (take (suc i) xs)
sets-next d l k j i [] e h = absurd (omega (arith, h))
sets-next d l k j zero (x ∷ xs) e h = let is : j ≡ k = omega (arith, e) in rw is refl
sets-next d l k j (suc i) (x ∷ xs) e h = sets-next d (set l k x) (suc k) j i xs (omega (arith, e)) (omega (arith, h))

-- ---- what no refusal comes to
pub record Unrefused (p : StoredState) (old new : List ℕ) (n : ℕ) : Type 0 where
  pub keeps : keeps p ≡ true
  pub loads : eqb (length (state_of p).tables.loads) 0 ≡ false
  pub sets : let k = length (state_of p).tables.loads in is_set k old && is_set k new ≡ true
  pub carried : let t = (state_of p).tables in carries t (on_by old) && carries t (on_by new) ≡ true
  pub room : ltb n (length (steps_of (state_of p).tables old new)) ≡ false

module _ (p : StoredState) (old new : List ℕ) (n : ℕ) where
  abbrev t : Tables
  t = (state_of p).tables

  abbrev k : ℕ
  k = length t.loads

  pub unrefused : refusal_of p old new n ≡ 0 → Unrefused p old new n
  unfolding refusal_of
  unrefused z =
      let a = passed-not no.unusable (keeps p) _ (omega arith) z in
      let b = passed no.no_loads (eqb k 0) _ (omega arith) a.1 in
      let c = passed-not no.out_of_range (is_set k old && is_set k new) _ (omega arith) b.1 in
      let d = passed-not no.not_carried (carries t (on_by old) && carries t (on_by new)) _ (omega arith) c.1 in
      let e = passed no.short_list (ltb n (length (steps_of t old new))) [] (omega arith) d.1 in
      record { keeps = a.0; loads = b.0; sets = c.0; carried = d.0; room = e.0 }

  -- a planner that keeps its limits has tables that do
  pub kept-limits : keeps p ≡ true → Limits t
  unfolding keeps_limits
  kept-limits h =
      let s = p.tables in
      let tables = and_left (keeps_limits s) (keeps_outcome (held_range s) p.outcome) (and_left (keeps_limits s && keeps_outcome (held_range s) p.outcome) (leb p.filled (cells_of (tables_of s))) h) in
      and_right (rules_free s.book.load_rules && rules_free s.book.row_rules && loads_free s.loads) (limits (tables_of s)) tables

  pub steps-most : keeps p ≡ true → length (steps_of t old new) ≤ k
  steps-most h = omega (arith, steps-few (on_by old) (on_by new) k, length-append (off_steps (on_by old) (on_by new) k) (on_steps (on_by old) (on_by new) k))

  -- the steps that are given have places in the list, and in the array
  given-fit : (m : ℕ) → refusal_of p old new n ≡ m → let ss = accepted m (steps_of t old new) [] in (length ss ≤ n) × (length ss ≤ max_loads)
  given-fit zero z =
      let u = unrefused z in
      let few = lawful t (kept-limits u.keeps) in
      (ltb-false n (length (steps_of t old new)) u.room, omega (arith, steps-most u.keeps, few.loads, few.places))
  given-fit (suc m) z = (omega arith, omega arith)

  pub given-most : (length (steps_given p old new n) ≤ n) × (length (steps_given p old new n) ≤ max_loads)
  unfolding steps_given
  given-most = given-fit (refusal_of p old new n) refl

-- ---- the list after i steps
abbrev pub row : (p : StoredState) (old new : List ℕ) (list : List Step) → ℕ → List Step
row p old new list i = sets list 0 (take i (steps_given p old new (length list)))

pub record Writes (p : StoredState) (old new : List ℕ) (list : List Step) (o : Order) : Type 0 where
  pub most : o.count ≤ max_loads
  pub room : (i : ℕ) → i < o.count → i < length list
  pub next : (i : ℕ) → i < o.count → set (row p old new list i) i (get_or o.items i no_step) ≡ row p old new list (i + 1)
  pub all : changed_to 0 o.count (row p old new list o.count) ≡ changeover p old new list

-- accepted, and refused
accepted-order : {o u : Order} (m : ℕ) → ◌≡◌ {A = Result Order ℕ} (Ok o) (told m u) → (m ≡ 0) × (o ≡ u)
accepted-order zero e = (refl, cc)
accepted-order (suc m) e = absurd (let z : ◌≡◌ {A = ℕ} 0 1 = cc in omega arith)

module _ (p : StoredState) (old new : List ℕ) (list : List Step) where
  pub writes : (o : Order) → ◌≡◌ {A = Result Order ℕ} (Ok o) (order_of p old new (length list)) → Writes p old new list o
  unfolding order_of laid_order changeover
  writes o e =
      let ss : List Step = steps_given p old new (length list) in
      let fit = given-most p old new (length list) in
      let is = accepted-order (refusal_of p old new (length list)) e in
      subst (Writes p old new list) (sym is.1) record {
        most = fit.1;
        room = λ i l. omega (arith, l, fit.0);
        next = λ i l. ap (set (sets list 0 (take i ss)) i) (get_or-laid no_step max_loads ss i l fit.1) ∙ sets-next no_step list 0 i i ss (omega arith) l ∙ ap (λ j. sets list 0 (take j ss)) (sym (add-one i));
        all = ap₂ (λ m us. changed_to m (length ss) (sets list 0 us)) (sym is.0) (take_all (length ss) ss (omega arith));
      }

  pub refused-list : (r : Refusal) → ◌≡◌ {A = Result Order ℕ} (Err (number_of r)) (order_of p old new (length list)) → changed_to (number_of r) 0 list ≡ changeover p old new list
  unfolding order_of changeover steps_given
  refused-list r e = go (refusal_of p old new (length list)) _ _ e
    where
      go : (m : ℕ) (u : Order) (ss : List Step) → ◌≡◌ {A = Result Order ℕ} (Err (number_of r)) (told m u) → changed_to (number_of r) 0 list ≡ changed_to m (length (accepted m ss [])) (sets list 0 (accepted m ss []))
      go zero u ss e = absurd (let z : ◌≡◌ {A = ℕ} 0 1 = cc in omega arith)
      go (suc m) u ss e = let h : number_of r ≡ suc m = cc in rw h refl

-- the ends of a changeover
pub ruleset lists = (refused-list)
