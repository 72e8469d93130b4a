-- Rules by number: how the code finds one, and what the step of a load says of the load's two rules. Assumes nothing.
use Prim.Native.Nat.{ℕ, zero, suc, ◌-◌, ◌≤◌, ◌<◌}
use mathlib.Core.Path.{◌≡◌, refl, sym, ap, ◌∙◌}
use mathlib.Core.Bool.{Bool, true, false, ◌&&◌}
use mathlib.Core.List.{List}
use mathlib.Core.Logic.{◌⊎◌, inl, inr}
use native.Mathlib.Omega.{arith}
use borrow.Author.Tests.{eqb-true, eq-eqb, ltb-true, lt-ltb}
use lib.Dec.{eqb, ltb}
use lib.ListN.{length, get_or, length-take, get_or-eq_default}
use lib.Seq.{get_or-take}
use Rattle.lists.specs.Argmax.{guard}
use Rattle.lists.proofs.Bools.{and_left, and_right, below_or}
use Rattle.tables.specs.declared.rule.RuleRange.{RuleRange}
use Rattle.tables.specs.declared.rule.Transition.{Transition}
use Rattle.tables.specs.declared.rule.TransitionList.{TransitionList}
use Rattle.tables.specs.Tables.{no_rule}
use Rattle.tables.specs.Lawful.{RuleFits}
use Rattle.tables.specs.Stored.{rules_of}
use Rattle.meaning.specs.Runs.{rule_at, rule}
use Rattle.meaning.specs.Judge.{begins}

-- ---- in an array
module _ (l : TransitionList) where
  pub rule-zero : (n : ℕ) → n ≡ 0 → no_rule ≡ rule (rules_of l) n
  rule-zero n e = rw e

  pub rule-over : (n : ℕ) → l.count < n → no_rule ≡ rule (rules_of l) n
  rule-over zero h = refl
  rule-over (suc j) h = sym (get_or-eq_default (rules_of l) no_rule {n = j} (omega (arith, length-take l.count l.items)))

  pub rule-in : (n : ℕ) → (n ≡ 0 → ⊥) → n ≤ l.count → get_or l.items (n - 1) no_rule ≡ rule (rules_of l) n
  rule-in zero p h = absurd (p refl)
  rule-in (suc j) p h =
      let e : suc j - 1 ≡ j = omega arith in
      rw e (sym (get_or-take l.count l.items j no_rule (omega arith)))

-- ---- named
-- n is the number of a rule
abbrev Named : List Transition → ℕ → Type 0
Named ts zero = ⊥
Named ts (suc j) = j < length ts

-- a rule with a number other than 0 in it is named
named_by : (f : Transition → ℕ) → f no_rule ≡ 0 → (ts : List Transition) (n : ℕ) → 0 < f (rule ts n) → Named ts n
named_by f e ts zero h = absurd (omega arith)
named_by f e ts (suc j) h = go (below_or j (length ts))
  where
    go : (j < length ts) ⊎ (length ts ≤ j) → j < length ts
    go (inl l) = l
    go (inr l) = absurd (omega (arith, ap f (get_or-eq_default ts no_rule {n = j} l)))

begins-named : (ts : List Transition) (n x : ℕ) → Named ts n → (rule ts n).from ≡ x → begins ts n x ≡ true
begins-named ts zero x h e = absurd h
begins-named ts (suc j) x h e = rw (lt-ltb j (length ts) h, eq-eqb (rule_at ts j).from x e)

named-begins : (ts : List Transition) (n x : ℕ) → begins ts n x ≡ true → Named ts n × ((rule ts n).from ≡ x)
named-begins ts zero x h = absurd (let z : ◌≡◌ {A = ℕ} 0 1 = cc in omega arith)
named-begins ts (suc j) x h = (
  ltb-true j (length ts) (and_left (ltb j (length ts)) (eqb (rule_at ts j).from x) h),
  eqb-true (rule_at ts j).from x (and_right (ltb j (length ts)) (eqb (rule_at ts j).from x) h),
)

-- ---- a load's step, over the rules of a book that keeps its limits
guard-pass : (t : Bool) (x : ℕ) → 0 < guard t x → (t ≡ true) × (guard t x ≡ x)
guard-pass true x h = (refl, refl)
guard-pass false x h = absurd (omega arith)

module _ (m : RuleRange) (ts : List Transition) (fit : (j : ℕ) → j < length ts → RuleFits m (rule_at ts j)) where
  -- a rule that is named leads to a stage
  leads : (n : ℕ) → Named ts n → 0 < (rule ts n).to
  leads zero h = absurd h
  leads (suc j) h = (fit j h).leads.0

  module _ (n q : ℕ) (x : Bool) where
    module _ (k : ℕ) where
      -- the load rule begins with the state and is of the load's kind, or gives no stage
      pub load-none : guard (eqb (rule ts n).from q && eqb (rule ts n).kind k) (rule ts n).to ≡ 0
          → begins ts n q && (eqb (rule ts n).kind k && x) ≡ false
      load-none e = go (begins ts n q) (eqb (rule ts n).kind k) refl refl
        where
          go : (b d : Bool) → begins ts n q ≡ b → eqb (rule ts n).kind k ≡ d → b && (d && x) ≡ false
          go false d h f = refl
          go true false h f = refl
          go true true h f =
              let p = named-begins ts n q h in
              absurd (omega (arith, leads n p.0, rw (eq-eqb (rule ts n).from q p.1, f) at e))

      pub load-some : 0 < guard (eqb (rule ts n).from q && eqb (rule ts n).kind k) (rule ts n).to
          → (begins ts n q && (eqb (rule ts n).kind k && x) ≡ x)
          × (guard (eqb (rule ts n).from q && eqb (rule ts n).kind k) (rule ts n).to ≡ (rule ts n).to)
      load-some h =
          let p = guard-pass (eqb (rule ts n).from q && eqb (rule ts n).kind k) (rule ts n).to h in
          let begin = and_left (eqb (rule ts n).from q) (eqb (rule ts n).kind k) p.0 in
          let serve = and_right (eqb (rule ts n).from q) (eqb (rule ts n).kind k) p.0 in
          let named = named_by (λ r. r.to) refl ts n (omega (arith, p.1)) in
          (rw (begins-named ts n q named (eqb-true (rule ts n).from q begin), serve), p.1)

    module _ (g : ℕ) where
      -- the row rule begins at the stage and gives the state, or its own stage is another
      pub row-none : (guard (eqb (rule ts n).label q) (rule ts n).from ≡ g → ⊥) → begins ts n g && (eqb (rule ts n).label q && x) ≡ false
      row-none other = go (begins ts n g) (eqb (rule ts n).label q) refl refl
        where
          go : (b d : Bool) → begins ts n g ≡ b → eqb (rule ts n).label q ≡ d → b && (d && x) ≡ false
          go false d h e = refl
          go true false h e = refl
          go true true h e = absurd (other (rw e (named-begins ts n g h).1))

      pub row-some : guard (eqb (rule ts n).label q) (rule ts n).from ≡ g → 0 < g
          → (begins ts n g && (eqb (rule ts n).label q && x) ≡ x) × (0 < (rule ts n).to)
      row-some e h =
          let p = guard-pass (eqb (rule ts n).label q) (rule ts n).from (omega arith) in
          let named = named_by (λ r. r.from) refl ts n (omega (arith, p.1)) in
          (rw (begins-named ts n g named (sym p.1 ∙ e), p.0), leads n named)
