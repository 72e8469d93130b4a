-- The lowest rule that reaches the best is found by comparing, and what is chosen by it is what the definition chooses. Assumes nothing.
use Prim.Native.Nat.{ℕ, suc, ◌+◌, ◌-◌, ◌≤◌, ◌<◌}
use mathlib.Core.Path.{◌≡◌, refl, sym, ap, ap₂, ◌∙◌}
use mathlib.Core.Bool.{Bool, true, false}
use mathlib.Core.List.{List}
use Rattle.std.specs.Prelude.{Option}
use mathlib.Core.Logic.{◌⊎◌, inl, inr}
use native.Mathlib.Nat.{eq-or-lt_of_le}
use native.Mathlib.Omega.{arith}
use native.Mathlib.Decide.{dec_lt}
use native.Mathlib.Numerals.{add-one}
use Rattle.lists.proofs.Argmax.{argmax-bound}
use Rattle.cells.specs.declared.problem.Shape.{Shape}
use Rattle.cells.specs.declared.outline.Lead.{Lead}
use Rattle.cells.specs.declared.outline.Joint.{Joint}
use Rattle.cells.specs.declared.outline.Rules.{Rules}
use Rattle.cells.specs.Outline.{rule_in, lead_in, best_in, NextRule}
use Rattle.cells.specs.Stretch.{leading, reach_of}
use Rattle.cells.proofs.Rules.{rule_or, next-walk, term, term-met, term-passed}
use Rattle.cells.proofs.Served.{reach-leading}
use Rattle.engine.specs.declared.choice.Choice.{Choice}
use Rattle.engine.specs.Search.{share_if, share_of, choice_by, choice_in}
use Rattle.engine.proofs.Search.{argmax-met}

module _ (sh : Shape) (o w : List ℕ) (t : Joint) (r : Rules) (c j : ℕ) where
  -- where a rule begins does not count for its share
  share-leading : share_of sh w t c (leading (lead_in o r.at j)) ≡ share_of sh w t c (rule_in o r.at j)
  share-leading = go t.branch
    where
      go : (b : Bool) → share_if b sh w t c (leading (lead_in o r.at j)) ≡ share_if b sh w t c (rule_in o r.at j)
      go true = refl
      go false = refl

  -- by rule j, with what it leads to
  by-lead : (x : Lead) (s : ℕ) → x ≡ lead_in o r.at j → s ≡ share_of sh w t c (leading x)
      → record { rule = j + 1; label = x.label; share = s; rest = t.rest; stage = x.stage; left = c - s } ≡ choice_by sh w t c j (rule_in o r.at j)
  by-lead x s e es =
      ap₂ (λ (i z : ℕ). record { rule = i; label = x.label; share = z; rest = t.rest; stage = x.stage; left = c - z }) (add-one j)
      (es ∙ ap (λ (x : Lead). share_of sh w t c (leading x)) e ∙ share-leading)
      ∙ ap made e
    where
      made : Lead → Choice
      made x = record {
        rule = suc j;
        label = x.label;
        share = share_of sh w t c (rule_in o r.at j);
        rest = t.rest;
        stage = x.stage;
        left = c - share_of sh w t c (rule_in o r.at j);
      }

  pub chosen_is : j < r.count → 0 < (best_in o r (reach_of sh w t c)).value → term o r (reach_of sh w t c) j ≡ (best_in o r (reach_of sh w t c)).value
      → ((m : ℕ) → m < j → term o r (reach_of sh w t c) m ≡ (best_in o r (reach_of sh w t c)).value → ⊥)
      → (x : Lead) (s : ℕ) → x ≡ lead_in o r.at j → s ≡ share_of sh w t c (leading x)
      → record { rule = j + 1; label = x.label; share = s; rest = t.rest; stage = x.stage; left = c - s } ≡ choice_in sh o w t r c
  unfolding choice_in
  chosen_is h pos e first x s ex es =
      by-lead x s ex es
      ∙ ap (λ i. choice_by sh w t c i (rule_in o r.at i)) (sym (argmax-met (term o r (reach_of sh w t c)) r.count j h pos e first))

module _ (sh : Shape) (o w : List ℕ) (t : Joint) (r : Rules) (c goal : ℕ) where
  -- no rule below j reaches the goal, if that is the best
  abbrev pub Missed : ℕ → Type 0
  Missed j = goal ≡ (best_in o r (reach_of sh w t c)).value → 0 < goal → (m : ℕ) → m < j → term o r (reach_of sh w t c) m ≡ goal → ⊥

  pub pass : (j : ℕ) (found : Option ℕ) → j ≤ r.count → Missed j → NextRule o r j found → Missed (rule_or o r found)
  pass j found low h n e pos m l q = go (dec_lt m j)
    where
      go : Dec (m < j) → ⊥
      go (yes k) = h e pos m k q
      go (no k) = absurd (omega (arith, term-passed o r (reach_of sh w t c) m ((next-walk o r found low n).1 m (omega arith) l)))

  pub miss : (j : ℕ) → Missed j → (goal ≡ (best_in o r (reach_of sh w t c)).value → 0 < goal → term o r (reach_of sh w t c) j ≡ goal → ⊥) → Missed (j + 1)
  miss j h k e pos m l q = go (eq-or-lt_of_le (omega arith))
    where
      go : (m ≡ j) ⊎ (m < j) → ⊥
      go (inl u) = k e pos (rw u at q)
      go (inr u) = h e pos m u q

  -- what rule j reaches, by what it leads to, and that it is no more than the best
  module _ (j : ℕ) (x : Lead) (h : j < r.count) (b : (rule_in o r.at j).from ≡ r.from) (e : x ≡ lead_in o r.at j) where
    pub by-rule : reach_of sh w t c (leading x) ≡ term o r (reach_of sh w t c) j
    by-rule = reach-leading sh o r.at j x e w t c ∙ sym (term-met o r (reach_of sh w t c) j b)

    pub no_more : goal ≡ (best_in o r (reach_of sh w t c)).value → reach_of sh w t c (leading x) ≤ goal
    no_more q = omega (arith, by-rule, argmax-bound (term o r (reach_of sh w t c)) r.count j h)
