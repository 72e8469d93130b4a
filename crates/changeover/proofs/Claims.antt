-- Request Twelve of the code: what the promise of `switch_over` comes to, on any planner, any two sets of bytes and any list, and after every list of calls.
-- Assumes nothing.
use Prim.Native.Nat.{ℕ, zero, suc, ◌+◌, ◌<◌}
use mathlib.Core.Path.{◌≡◌, refl, sym, ap, subst, ◌∙◌}
use mathlib.Core.Bool.{Bool, true, false, ◌&&◌, not}
use mathlib.Core.List.{List, [], ◌∷◌, ◌++◌}
use mathlib.Core.Logic.{◌⊎◌, inl, inr}
use native.Mathlib.Omega.{arith}
use borrow.Author.Tests.{eqb-true}
use lib.Dec.{eqb, ltb, lit≤}
use lib.ListN.{length, take, drop}
use lib.Seq.{sets, sets-eq, length-sets, take_at, drop_at}
use Rattle.lists.proofs.Bools.{and_left, and_right}
use Rattle.marks.specs.declared.LoadSet.{LoadSet}
use Rattle.marks.specs.Sets.{has_load}
use Rattle.marks.proofs.Laws.{has-zero}
use Rattle.marks.proofs.Sets.{has-low}
use Rattle.lines.specs.Grammar.{is_bits, loads_of}
use Rattle.lines.proofs.Bits.{loads-bit, loads-past}
use Rattle.tables.specs.Refusals as no
use Rattle.tables.specs.Tables.{Tables}
use Rattle.tables.specs.Limits.{max_loads, Limits}
use Rattle.tables.specs.Operations.{accepted}
use Rattle.tables.proofs.Lawful.{lawful, inside}
use Rattle.calls.specs.State.{State, StoredState, stored_state, state_of, keeps}
use Rattle.calls.specs.Rows.{◌if◌}
use Rattle.calls.specs.Causes.{lowest, Lowest}
use Rattle.calls.specs.Demand3.{Event, History, last, paper}
use Rattle.calls.proofs.Numbers.{lowest-given, lowest-least}
use Rattle.calls.proofs.State.{state-stored, keeps-stored}
use Rattle.planner.specs.declared.Planner.{Planner}
use Rattle.planner.specs.Planner as planner
use Rattle.planner.specs.Planner.{held}
use Rattle.planner.proofs.Demands.{demand3}
use Rattle.changeover.specs.declared.order.Step.{Step}
use Rattle.changeover.specs.Sets.{is_set, on_by, carries}
use Rattle.changeover.specs.Steps.{off_steps, on_steps}
use Rattle.changeover.specs.Changeover.{steps_of, causes_for, refusal_of, steps_given, Changed, changeover}
use Rattle.changeover.specs.Claims.{Safe, StepsRight, ChangeoverRight, SetsRight, AfterCalls}
use Rattle.changeover.proofs.Phases.{Passed, shared, passed-all}
use Rattle.changeover.proofs.Listed.{unrefused, kept-limits, given-most}
use Rattle.changeover.proofs.Safe.{carried-exactly, phase-carried}
use Rattle.changeover.proofs.Sequence.{off-marks, on-marks, steps-order, steps-for}

-- ---- the sets
-- no load has number 0
no-load : (s : LoadSet) → has_load s 0 ≡ false
no-load s = sym (has-low s 0 (omega arith)) ∙ sym (has-zero s.low 0 refl)

-- a set written for n loads has no other
only-loads : (n : ℕ) (bits : List ℕ) → is_set n bits ≡ true → (j : ℕ) → (j ≡ 0) ⊎ (n < j) → on_by bits j ≡ false
only-loads n bits h j (inl e) = rw e (no-load (loads_of bits))
only-loads n bits h j (inr l) = loads-past bits j (omega (arith, l, eqb-true (length bits) n (and_right (is_bits bits) (eqb (length bits) n) h)))

pub sets-right : (t : Tables) → Limits t → (bits : List ℕ) → SetsRight t bits
sets-right t h bits = record {
  read = λ right k there.
      let r = inside 1 (length t.loads) k there in
      let n = eqb-true (length bits) (length t.loads) (and_right (is_bits bits) (eqb (length bits) (length t.loads)) right) in
      loads-bit bits k r.0 (omega (arith, r, (lawful t h).loads, (lawful t h).places)) (omega (arith, r, n));
  carried = carried-exactly t h (on_by bits);
}

-- ---- the steps from one set to another, both of them written for the loads of t and carried
pub steps-right : (t : Tables) → Limits t → (old new : List ℕ) → let n = length t.loads in is_set n old && is_set n new ≡ true → carries t (on_by old) && carries t (on_by new) ≡ true
    → StepsRight t (on_by old) (on_by new) (steps_of t old new)
steps-right t h old new right carried =
    let n = length t.loads in
    let o : Safe t (on_by old) = (carried-exactly t h (on_by old)).0 (and_left (carries t (on_by old)) (carries t (on_by new)) carried) in
    let w : Safe t (on_by new) = (carried-exactly t h (on_by new)).0 (and_right (carries t (on_by old)) (carries t (on_by new)) carried) in
    let old-in = only-loads n old (and_left (is_set n old) (is_set n new) right) in
    let new_in = only-loads n new (and_right (is_set n old) (is_set n new) right) in
    let going = phase-carried t h (on_by old) (on_by new) o w (on_by old) o (λ j. and_left (on_by old j) (on_by new j)) in
    let all : Passed (on_by old) (on_by new) (Safe t) (steps_of t old new) (on_by old) (on_by new) =
    passed-all (on_by old) (on_by new) (Safe t) n old-in new_in going (phase-carried t h (on_by old) (on_by new) o w (on_by new) w (λ j. and_right (on_by old j) (on_by new j))) in
    record {
      order = steps-order (on_by old) (on_by new) n;
      each = λ k. steps-for (on_by old) (on_by new) k n;
      every = all.every;
      halves = (
        off_steps (on_by old) (on_by new) n,
        on_steps (on_by old) (on_by new) n,
        refl,
        off-marks (on_by old) (on_by new) n,
        on-marks (on_by old) (on_by new) n,
        λ k there. shared (on_by old) (on_by new) (Safe t) n old-in new_in going k (inside 1 n k there).0,
      );
      last = λ k there. ap (λ (on : ℕ → Bool). on k) all.last;
    }

-- ---- a changeover, whatever the planner holds
module _ (p : StoredState) (old new : List ℕ) (list : List Step) where
  abbrev n : ℕ
  n = length list

  abbrev ss : List Step
  ss = steps_given p old new n

  number-right : Lowest (causes_for p old new n) (refusal_of p old new n)
  unfolding refusal_of
  number-right = record { given = lowest-given (causes_for p old new n); least = lowest-least 1 (causes_for p old new n) (lit≤ tt, (lit≤ tt, (lit≤ tt, (lit≤ tt, (lit≤ tt, tt))))) }

  is : sets list 0 ss ≡ ss ++ drop (length ss) list
  is =
      let from-nought : 0 + length ss ≡ length ss = omega arith in
      sets-eq ss list 0 (omega (arith, (given-most p old new n).0)) ∙ ap (λ k. ss ++ drop k list) from-nought

  given-all : refusal_of p old new n ≡ 0 → ss ≡ steps_of (state_of p).tables old new
  unfolding steps_given
  given-all z = rw z refl

  given-none : 0 < refusal_of p old new n → ss ≡ []
  unfolding steps_given
  given-none l = go (refusal_of p old new n) l
    where
      go : (m : ℕ) → 0 < m → accepted m (steps_of (state_of p).tables old new) [] ≡ []
      go zero l = absurd (omega (arith, l))
      go (suc m) l = refl

  pub stored-right : ChangeoverRight p old new list (changeover p old new list)
  unfolding changeover
  stored-right =
      let front : take (length ss) (sets list 0 ss) ≡ ss = ap (take (length ss)) is ∙ take_at ss (drop (length ss) list) (length ss) refl in
      record {
        number = number-right;
        refused = λ l. (ap length (given-none l), ap (sets list 0) (given-none l));
        counted = λ z. ap length (given-all z);
        written = λ z. front ∙ given-all z;
        beyond = ap (drop (length ss)) is ∙ drop_at ss (drop (length ss) list) (length ss) refl;
        places = length-sets list 0 ss;
        right = λ z.
            let u = unrefused p old new n z in
            subst (StepsRight (state_of p).tables (on_by old) (on_by new)) (sym (front ∙ given-all z)) (steps-right (state_of p).tables (kept-limits p old new n u.keeps) old new u.sets u.carried);
      }

-- a changeover of every planner, whatever it holds
pub changeover-right : (p : Planner) (old new : List ℕ) (list : List Step) (c : Changed) → c ≡ changeover (held p) old new list → ChangeoverRight (held p) old new list c
changeover-right p old new list c is = subst (ChangeoverRight (held p) old new list) (sym is) (stored-right (held p) old new list)

-- ---- after every list of calls from a fresh planner
-- no other cause has the number 1
not-one : (a b c d : Bool) → lowest ((no.no_loads if a) ∷ (no.out_of_range if b) ∷ (no.not_carried if c) ∷ (no.short_list if d) ∷ []) ≡ no.unusable → ⊥
unfolding lowest
not-one true b c d e = omega (arith, e)
not-one false true c d e = omega (arith, e)
not-one false false true d e = omega (arith, e)
not-one false false false true e = omega (arith, e)
not-one false false false false e = omega (arith, e)

-- so a planner that keeps its limits is not turned away
usable : (p : StoredState) (old new : List ℕ) (n : ℕ) → keeps p ≡ true → refusal_of p old new n ≡ no.unusable → ⊥
unfolding refusal_of lowest
usable p old new n h e =
    let t = (state_of p).tables in
    let k = length t.loads in
    not-one (eqb k 0) (not (is_set k old && is_set k new)) (not (carries t (on_by old) && carries t (on_by new))) (ltb n (length (steps_of t old new))) (rw h at e)

told : (p : StoredState) (old new : List ℕ) (list : List Step) (c : Changed) → c ≡ changeover p old new list → c.number ≡ refusal_of p old new (length list)
unfolding changeover
told p old new list c e = ap (λ (x : Changed). x.number) e

pub after-calls : (xs : List Event) → History (held planner.fresh) xs → (old new : List ℕ) (list : List Step) (c : Changed) → c ≡ changeover (last (held planner.fresh) xs) old new list → AfterCalls max_loads xs old new c
after-calls xs y old new list c is =
    let d3 = demand3 xs y in
    let s : State = paper max_loads xs in
    let e : c ≡ changeover (stored_state s) old new list = is ∙ ap (λ (p : StoredState). changeover p old new list) d3.state in
    let x = subst (ChangeoverRight (stored_state s) old new list) (sym e) (stored-right (stored_state s) old new list) in
    let tables : (state_of (stored_state s)).tables ≡ s.tables = ap (λ (z : State). z.tables) (state-stored s d3.limits) in
    record {
      usable = λ z. usable (stored_state s) old new (length list) (keeps-stored s d3.limits) (sym (told (stored_state s) old new list c e) ∙ z);
      written = λ z. x.written z ∙ ap (λ (t : Tables). steps_of t old new) tables;
      right = λ z. subst (λ (t : Tables). StepsRight t (on_by old) (on_by new) (take c.count c.list)) tables (x.right z);
    }
