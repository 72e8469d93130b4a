-- The numbers of an operation on a list: each exactly in its case. Assumes nothing.
use Prim.Native.Nat.{ℕ, ◌≤◌, ◌<◌}
use mathlib.Core.Path.{◌≡◌, refl}
use mathlib.Core.Bool.{Bool, true, false}
use mathlib.Core.List.{List}
use mathlib.Core.Logic.{◌↔◌}
use native.Mathlib.Omega.{arith}
use borrow.Author.Tests.{leb-true, leb-false, le-leb, lt-leb}
use lib.Dec.{leb}
use lib.ListN.{length}
use Rattle.lists.specs.Tests.{some}
use Rattle.tables.specs.Refusals as no
use Rattle.tables.specs.Tables.{Transition, Load}
use Rattle.tables.specs.Limits.{max_rules, same_rule}
use Rattle.tables.specs.Operations.{adding_number, rule_number, load_number}

-- ---- by the tests: is the list full, is the element there?
is-full : (a b : Bool) → adding_number a b ≡ no.full → a ≡ true
is-full true b e = refl
is-full false true e = absurd (omega arith)
is-full false false e = absurd (omega arith)

is-there : (a b : Bool) → adding_number a b ≡ no.same_rule → (a ≡ false) × (b ≡ true)
is-there true b e = absurd (omega arith)
is-there false true e = (refl, refl)
is-there false false e = absurd (omega arith)

is-new : (a b : Bool) → adding_number a b ≡ 0 → (a ≡ false) × (b ≡ false)
is-new true b e = absurd (omega arith)
is-new false true e = absurd (omega arith)
is-new false false e = (refl, refl)

module _ (rs : List Transition) (r : Transition) where
  -- "32 rules of that sort already"
  pub rule-full : (rule_number rs r ≡ no.full) ↔ (max_rules ≤ length rs)
  unfolding rule_number
  rule-full = (λ e. leb-true max_rules (length rs) (is-full (leb max_rules (length rs)) (some (same_rule r) rs) e), λ h. rw (le-leb max_rules (length rs) h))

  -- "the same rule already in the book"
  pub rule-same : (rule_number rs r ≡ no.same_rule) ↔ ((length rs < max_rules) × (some (same_rule r) rs ≡ true))
  unfolding rule_number
  rule-same = (
    λ e. let o = is-there (leb max_rules (length rs)) (some (same_rule r) rs) e in (leb-false max_rules (length rs) o.0, o.1),
    λ (h, e). rw (lt-leb max_rules (length rs) h, e),
  )

  pub rule-new : (rule_number rs r ≡ 0) ↔ ((length rs < max_rules) × (some (same_rule r) rs ≡ false))
  unfolding rule_number
  rule-new = (
    λ e. let o = is-new (leb max_rules (length rs)) (some (same_rule r) rs) e in (leb-false max_rules (length rs) o.0, o.1),
    λ (h, e). rw (lt-leb max_rules (length rs) h, e),
  )

module _ (places : ℕ) (ls : List Load) where
  -- "64 loads .. already"
  pub load_full : (load_number places ls ≡ no.full) ↔ (places ≤ length ls)
  unfolding load_number
  load_full = (λ e. leb-true places (length ls) (is-full (leb places (length ls)) false e), λ h. rw (le-leb places (length ls) h))

  pub load-new : (load_number places ls ≡ 0) ↔ (length ls < places)
  unfolding load_number
  load-new = (λ e. leb-false places (length ls) (is-new (leb places (length ls)) false e).0, λ h. rw (lt-leb places (length ls) h))
