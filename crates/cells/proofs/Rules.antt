-- A walk over the rules that begin at one state or stage: those between are passed, and a strip is raised to the best of those met.
-- Assumes nothing.
use Prim.Native.Nat.{ℕ, ◌+◌, ◌-◌, ◌≤◌, ◌<◌}
use mathlib.Core.Path.{◌≡◌, sym, ap, ◌∙◌}
use mathlib.Core.List.{List}
use Rattle.std.specs.Prelude.{Option, None, Some}
use Rattle.std.specs.Option.{unwrap_or, MatchOption}
use native.Mathlib.Omega.{arith}
use borrow.Author.Tests.{eq-eqb, ne_eqb}
use lib.Dec.{eqb}
use lib.ListN.{length}
use Rattle.lists.specs.Argmax.{guard, Greatest, argmax}
use Rattle.lists.proofs.Argmax.{argmax-still, argmax-agree}
use Rattle.tables.specs.declared.rule.Transition.{Transition}
use Rattle.tables.specs.declared.rule.TransitionList.{TransitionList}
use Rattle.tables.specs.Stored.{rules_of}
use Rattle.meaning.specs.Best.{best_rule}
use Rattle.cells.specs.declared.outline.Rules.{Rules}
use Rattle.cells.specs.Problem.{RulesIn}
use Rattle.cells.specs.Outline.{rule_in, best_in, Begins, NoneBegins, NextRule, Listed}
use Rattle.cells.specs.Strip.{Raised}
use Rattle.cells.proofs.Tables.{rule-at, rules-length}
use Rattle.cells.proofs.Strips.{raised-agree, raised-next}

-- where the next rule stands, past the last one where there is none
module _ (o : List ℕ) (r : Rules) where
  abbrev pub rule_or : Option ℕ → ℕ
  rule_or found = unwrap_or found r.count

  pub next-met : (j : ℕ) (found : Option ℕ) → NextRule o r j found → MatchOption found (Unit {0}) (λ i. (i < r.count) × Begins o r i)
  next-met j None n = tt
  next-met j (Some i) n = (n.1, n.2)

  pub next-walk : {j : ℕ} (found : Option ℕ) → j ≤ r.count → NextRule o r j found → (j ≤ rule_or found) × NoneBegins o r j (rule_or found)
  next-walk None low n = (low, n)
  next-walk (Some i) low n = (n.0, n.3)

-- what each rule of the sort counts for
module _ (o : List ℕ) (r : Rules) (reach : Transition → ℕ) where
  abbrev pub term : ℕ → ℕ
  term j = guard (eqb (rule_in o r.at j).from r.from) (reach (rule_in o r.at j))

  pub term-met : (j : ℕ) → (rule_in o r.at j).from ≡ r.from → term j ≡ reach (rule_in o r.at j)
  term-met j h = rw (eq-eqb _ _ h)

  pub term-passed : (j : ℕ) → ((rule_in o r.at j).from ≡ r.from → ⊥) → term j ≡ 0
  term-passed j h = rw (ne_eqb _ _ h)

  pub rules-passed : {j i : ℕ} → j ≤ i → NoneBegins o r j i → argmax term i ≡ argmax term j
  rules-passed {j} {i} low n =
      let e : i ≡ j + (i - j) = omega arith in
      ap (argmax term) e ∙ argmax-still term j (i - j) (λ m l k. term-passed m (n m l (omega arith)))

-- a strip that is raised to the best of the rules below j
module _ (o : List ℕ) (r : Rules) (reach : ℕ → Transition → ℕ) where
  abbrev pub Ruled : (s t : List ℕ) → (from to j : ℕ) → Type 0
  Ruled s t from to j = Raised s t from to (λ a. (argmax (term o r (reach a)) j).value)

  module _ {s t : List ℕ} {from to : ℕ} where
    pub strip-passed : {j i : ℕ} → Ruled s t from to j → j ≤ i → NoneBegins o r j i → Ruled s t from to i
    strip-passed p low n = raised-agree p _ (λ a l m. ap (λ (g : Greatest). g.value) (sym (rules-passed o r (reach a) low n)))

    pub strip-next : {j : ℕ} (found : Option ℕ) → Ruled s t from to j → j ≤ r.count → NextRule o r j found → Ruled s t from to (rule_or o r found)
    strip-next found p low n = let w = next-walk o r found low n in strip-passed p w.0 w.1

    pub strip-raised : (j : ℕ) → Ruled s t from to j → (rule_in o r.at j).from ≡ r.from → {u : List ℕ}
        → Raised t u from to (λ a. reach a (rule_in o r.at j)) → Ruled s u from to (j + 1)
    strip-raised j p h q = raised-next (λ a. term o r (reach a)) j p (raised-agree q _ (λ a l m. sym (term-met o r (reach a) j h)))

-- the rules of a list, as they stand in the outline
pub listed-best : {o : List ℕ} {at n : ℕ} {l : TransitionList} {low high g : ℕ} → RulesIn l low high g → Listed o at n l
    → (x : ℕ) (reach : Transition → ℕ) → best_in o (record { at = at; count = n; from = x }) reach ≡ best_rule (rules_of l) x reach
listed-best {o} {at} {n} {l} ok d x reach =
    ap (argmax (term o (record { at = at; count = n; from = x }) reach)) e
    ∙ argmax-agree _ _ (length (rules_of l))
    (λ j h. ap (λ (r : Transition). guard (eqb r.from x) (reach r)) (d.rule j (omega (arith, few)) ∙ sym (rule-at l j (omega (arith, few)))))
  where
    few : length (rules_of l) ≡ l.count
    few = rules-length l (omega (arith, ok.few, ok.full))

    e : n ≡ length (rules_of l)
    e = omega (arith, few, d.count)
