-- A change on a planner that holds tables within the limits answers and leaves what its row of causes and its effect say. Assumes nothing.
use Prim.Native.Nat.{ℕ, zero, suc, ◌≤◌}
use mathlib.Core.Path.{◌≡◌, refl, sym, ap, ◌∙◌}
use mathlib.Core.Bool.{Bool, true, false, ◌&&◌, not}
use mathlib.Core.List.{List, [], ◌∷◌}
use Rattle.std.specs.Prelude.{Result, Ok, Err}
use Rattle.std.proofs.lemmas.Result.{MatchResult-at_ok, MatchResult-at_err}
use lib.Dec.{leb}
use lib.ListN.{length}
use Rattle.lists.specs.Tests.{pick, some}
use Rattle.lists.proofs.Bools.{and_left}
use Rattle.lines.specs.declared.Change.{Change}
use Rattle.lines.specs.declared.Change.TheVariants as to
use Rattle.lines.specs.declared.answer.Answer.{Answer}
use Rattle.lines.specs.declared.answer.Answer.TheVariants.{Accepted}
use Rattle.lines.specs.Answers.{answer_of}
use Rattle.tables.specs.declared.tables.StoredTables.{StoredTables}
use Rattle.tables.specs.declared.refusal.Refusal.{Refusal}
use Rattle.tables.specs.declared.refusal.Refusal.TheVariants.{OutOfRange}
use Rattle.tables.specs.Refusals.{number_of, numbered, told}
use Rattle.tables.specs.declared.rule.Sort.{Sort}
use Rattle.tables.specs.declared.rule.Sort.TheVariants as sort
use Rattle.tables.specs.declared.rule.Transition.{Transition}
use Rattle.tables.specs.declared.load.Figure.{Figure}
use Rattle.tables.specs.declared.load.Load.{Load}
use Rattle.tables.specs.Refusals as no
use Rattle.tables.specs.Tables.{Tables, size_for, rules_for}
use Rattle.tables.specs.Limits.{between, rule_in, range_for, same_rule, max_rules, figure_in, max_loads}
use Rattle.tables.specs.Stored.{held_size, stored, loads_of, book_of, tables_of, Holds}
use Rattle.tables.specs.Changes.{has_children}
use Rattle.tables.specs.Operations.{adding_number, rule_number, load_number, rule_added, figure_changed, load_dropped}
use Rattle.tables.proofs.Lawful.{inside}
use Rattle.tables.proofs.Stored.{held-loads}
use Rattle.tables.proofs.Changes.{rule-added, figure-changed}
use Rattle.tables.proofs.Removed.{load-dropped}
use Rattle.runs.specs.Outcome.{nothing, stored_outcome}
use Rattle.calls.specs.Rows.{Cause, ◌if◌, is_load, changes, effect_of, unless, adding, setting, changing}
use Rattle.calls.specs.Causes.{lowest}
use Rattle.calls.specs.Effects.{state_by}
use Rattle.calls.specs.State.{State, StoredState, stored_state}
use Rattle.calls.proofs.State.{is-stored, places, kept-within, kept-stored}
use Rattle.calls.proofs.Rows.{change-places}
use Rattle.planner.specs.declared.Planner.{Planner}
use Rattle.planner.specs.Planner.{held, planner_of, state_in, Lawful}
use Rattle.planner.specs.Changes.{named_rule, told_by, told_for}

-- ---- numbers: "value out of its range" comes first, then what the list of rules or loads says
out : (b : Bool) (cs : List Cause) → b ≡ false → lowest ((no.out_of_range if not b) ∷ cs) ≡ no.out_of_range
unfolding lowest
out b cs e = rw e

not-out : (b : Bool) (cs : List Cause) → b ≡ true → lowest ((no.out_of_range if not b) ∷ cs) ≡ lowest cs
unfolding lowest
not-out b cs e = rw e

adding-lowest : (a b : Bool) → lowest ((no.full if a) ∷ (no.same_rule if b) ∷ []) ≡ adding_number a b
unfolding lowest
adding-lowest true b = refl
adding-lowest false true = refl
adding-lowest false false = refl

rule-lowest : (rs : List Transition) (r : Transition)
    → lowest ((no.full if leb max_rules (length rs)) ∷ (no.same_rule if some (same_rule r) rs) ∷ []) ≡ rule_number rs r
unfolding rule_number
rule-lowest rs r = adding-lowest (leb max_rules (length rs)) (some (same_rule r) rs)

pub load-lowest : (n : ℕ) (ls : List Load) → lowest ((no.full if leb n (length ls)) ∷ []) ≡ load_number n ls
unfolding load_number lowest
load-lowest n ls = adding-lowest (leb n (length ls)) false

-- ---- what a planner within the limits holds
pub tables-count : (u : StoredTables) → Holds max_loads u → u.loads.count ≡ length (tables_of u).loads
unfolding stored
tables-count u h = ap (λ (x : StoredTables). x.loads.count) (is-stored u h)

module _ (p : Planner) (h : Lawful p) where
  pub load-count : p.tables.loads.count ≡ length (state_in p).tables.loads
  load-count = tables-count p.tables h.tables

  pub few : p.tables.loads.count ≤ max_loads
  few = held-loads max_loads p.tables h.tables

-- how many states or stages
pub size-held : (u : StoredTables) (k : Sort) → held_size u.book k ≡ size_for (tables_of u).book k
unfolding tables_of book_of
size-held u sort.Load = refl
size-held u sort.Row = refl

-- the outcome that it holds
pub outcome-held : (p : Planner) → Lawful p → p.outcome ≡ stored_outcome max_loads (state_in p).outcome
outcome-held p h = ap (λ (k : StoredState). k.outcome) (kept-stored (held p) h) ∙ ap (λ (n : ℕ). stored_outcome n (state_in p).outcome) (places p.tables h.tables)

-- the answer of a change that tells this, and the planner after it: "an accepted change wipes" the outcome, and starts the filling over
abbrev pub answered : Result StoredTables ℕ → Result Answer ℕ
answered (Ok u) = Ok Accepted
answered (Err n) = Err n

abbrev pub settled : Planner → Result StoredTables ℕ → Planner
settled p (Ok u) = record { tables = u; outcome = stored_outcome max_loads nothing; filled = 0 }
settled p (Err n) = p

module _ (p : Planner) (h : Lawful p) (c : Change) {r : Result StoredTables ℕ} (is : r ≡ told_for (state_in p) c) where
  pub answered_is : answered r ≡ answer_of (lowest (changing (state_in p).tables c).causes)
  unfolding told_by
  answered_is = ap answered is ∙ go (lowest (changing (state_in p).tables c).causes)
    where
      go : (n : ℕ) → answered (told n (stored (changing (state_in p).tables c).after)) ≡ answer_of n
      go zero = refl
      go (suc n) = refl

  pub settled_is : settled p r ≡ planner_of (stored_state (state_by (state_in p) (lowest (changing (state_in p).tables c).causes) (changes (changing (state_in p).tables c))))
  unfolding told_by
  settled_is = ap (settled p) is ∙ go (lowest (changing t c).causes)
    where
      t : Tables
      t = (state_in p).tables

      as_many : max_loads ≡ (effect_of t (changes (changing t c))).places
      as_many = sym (change-places t c ∙ places p.tables h.tables)

      go : (n : ℕ) → settled p (told n (stored (changing t c).after)) ≡ planner_of (stored_state (state_by (state_in p) n (changes (changing t c))))
      go zero = λ i. record { tables = stored (changing t c).after; outcome = stored_outcome (as_many i) nothing; filled = 0 }
      go (suc n) = ap planner_of (kept-stored (held p) h)

-- ---- the ways out of a change whose first cause is "value out of its range"
module _ (s : State) (b : Bool) (cs : List Cause) (after : Tables) where
  pub out_of_range : b ≡ false → Err no.out_of_range ≡ told_by s (unless ((no.out_of_range if not b) ∷ cs) after)
  unfolding told_by
  out_of_range e = rw (out b cs e)

  -- in range: what the operation gives
  pub operated : b ≡ true → {r : Result StoredTables ℕ} → r ≡ told (lowest cs) (stored after) → r ≡ told_by s (unless ((no.out_of_range if not b) ∷ cs) after)
  unfolding told_by
  operated e given = rw (not-out b cs e) given

-- in range, where that is the only cause: accepted
pub accepts : (s : State) (b : Bool) (after : Tables) → b ≡ true → {u : StoredTables} → u ≡ stored after → Ok u ≡ told_by s (unless ((no.out_of_range if not b) ∷ []) after)
unfolding lowest
accepts s b after e given = operated s b [] after e (ap Ok given)

-- another figure of load k: set where there is such a load and the figure fits
module _ (p : Planner) (h : Lawful p) (f : Figure) (k x : ℕ) {there fits : Bool} (looked : there ≡ between 1 p.tables.loads.count k) (compared : fits ≡ figure_in f x) where
  tested : there && fits ≡ is_load (state_in p).tables k && figure_in f x
  tested = rw (looked, compared) (ap (λ (n : ℕ). between 1 n k && figure_in f x) (load-count p h))

  pub figure-refused : there && fits ≡ false → Err no.out_of_range ≡ told_by (state_in p) (setting (state_in p).tables f k x)
  figure-refused e = out_of_range (state_in p) (is_load (state_in p).tables k && figure_in f x) [] _ (sym tested ∙ e)

  pub figure-set : there && fits ≡ true → {u : StoredTables} → u ≡ figure_changed p.tables f k x → Ok u ≡ told_by (state_in p) (setting (state_in p).tables f k x)
  figure-set e given =
      let passed = sym tested ∙ e in
      let is-there = inside 1 (length (state_in p).tables.loads) k (and_left (is_load (state_in p).tables k) (figure_in f x) passed) in
      accepts (state_in p) (is_load (state_in p).tables k && figure_in f x) _ passed
      (given ∙ ap (λ (y : StoredTables). figure_changed y f k x) (is-stored p.tables h.tables) ∙ figure-changed (state_in p).tables (kept-within (held p) h).tables f k x is-there.0 is-there.1)

-- load k leaves, where there is such a load and it has no children
module _ (p : Planner) (h : Lawful p) (k : ℕ) {there : Bool} (looked : there ≡ between 1 p.tables.loads.count k) where
  number-tested : there ≡ is_load (state_in p).tables k
  number-tested = looked ∙ ap (λ (n : ℕ). between 1 n k) (load-count p h)

  pub no-load : there ≡ false → Err no.out_of_range ≡ told_for (state_in p) (to.Drop k)
  unfolding changing
  no-load e = out_of_range (state_in p) (is_load (state_in p).tables k) _ _ (sym number-tested ∙ e)

  module _ (e : there ≡ true) where
    passed : is_load (state_in p).tables k ≡ true
    passed = sym number-tested ∙ e

    is-there : (1 ≤ k) × (k ≤ length (state_in p).tables.loads)
    is-there = inside 1 (length (state_in p).tables.loads) k passed

    module _ {parent : Bool} (asked : parent ≡ has_children k (loads_of p.tables.loads)) where
      pub load-stays : parent ≡ true → Err no.has_children ≡ told_for (state_in p) (to.Drop k)
      unfolding changing tables_of lowest
      load-stays some = operated (state_in p) (is_load (state_in p).tables k) _ _ passed (rw (← asked, some) refl)

      pub load-leaves : parent ≡ false → {u : StoredTables} → u ≡ load_dropped p.tables k → Ok u ≡ told_for (state_in p) (to.Drop k)
      unfolding changing tables_of lowest
      load-leaves none given =
          let left = given ∙ ap (λ (y : StoredTables). load_dropped y k) (is-stored p.tables h.tables) ∙ load-dropped (state_in p).tables (kept-within (held p) h).tables k is-there.0 is-there.1 in
          operated (state_in p) (is_load (state_in p).tables k) _ _ passed (rw (← asked, none) (ap Ok left))

-- ---- the rule or the load that a line names
pub named-err : {A : Type 0} (b : Bool) (x : A) {e : Refusal} → pick b (Ok x) (Err OutOfRange) ≡ Err e → (b ≡ false) × (OutOfRange ≡ e)
named-err true x {e} h = absurd (MatchResult-at_err (λ y. x ≡ x) (λ e. ⊥) e h refl)
named-err false x {e} h = (refl, MatchResult-at_err (λ y. x ≡ x) (λ z. OutOfRange ≡ z) e h refl)

pub named-ok : {A : Type 0} (b : Bool) (x : A) {y : A} → pick b (Ok x) (Err OutOfRange) ≡ Ok y → (b ≡ true) × (y ≡ x)
named-ok true x {y} h = (refl, MatchResult-at_ok (λ z. z ≡ x) (λ e. x ≡ x) y h refl)
named-ok false x {y} h = absurd (MatchResult-at_ok (λ y. ⊥) (λ e. x ≡ x) y h refl)

-- a rule of either sort
module _ (p : Planner) (h : Lawful p) (k : Sort) (r : Transition) where
  pub rule-refused : {e : Refusal} → named_rule (range_for (state_in p).tables.book k) r ≡ Err e → Err (number_of e) ≡ told_by (state_in p) (adding (state_in p).tables k r)
  unfolding named_rule
  rule-refused given =
      let n = named-err (rule_in (range_for (state_in p).tables.book k) r) r given in
      ap (λ (z : Refusal). Err (number_of z)) (sym n.1) ∙ out_of_range (state_in p) (rule_in (range_for (state_in p).tables.book k) r) _ _ n.0

  pub rule-stored : {x : Transition} → named_rule (range_for (state_in p).tables.book k) r ≡ Ok x → {d : Result StoredTables Refusal} → d ≡ rule_added p.tables k x
      → numbered d ≡ told_by (state_in p) (adding (state_in p).tables k r)
  unfolding named_rule
  rule-stored is given =
      let n = named-ok (rule_in (range_for (state_in p).tables.book k) r) r is in
      operated (state_in p) (rule_in (range_for (state_in p).tables.book k) r) _ _ n.0
      (ap numbered (given ∙ ap (rule_added p.tables k) n.1 ∙ ap (λ (y : StoredTables). rule_added y k r) (is-stored p.tables h.tables))
      ∙ rw (rule-lowest (rules_for (state_in p).tables.book k) r) (rule-added (state_in p).tables (kept-within (held p) h).tables k r))
