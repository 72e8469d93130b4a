-- What a search of the filled cells finds: the greatest value and the lowest number that has it, and the lowest rule and the smallest
-- allowance that reach a goal.
-- It stands for "the lowest .. that still reaches the best" and "the smallest allowance .. that does" of paper 01. Assumes nothing.
use Rattle.std.specs.Prelude.{ℕ, suc, ◌-◌, ◌<◌, ◌≡◌, Bool, true, false, List, Option, None, Some}
use Rattle.lists.specs.Argmax.{guard, Greatest, argmax}
use Rattle.marks.specs.Bits.{has_mark}
use Rattle.tables.specs.declared.rule.Transition.{Transition}
use Rattle.meaning.specs.Cell.{◌⊕◌, draw}
use Rattle.meaning.specs.Best.{shares}
use Rattle.cells.specs.declared.problem.Shape.{Shape}
use Rattle.cells.specs.declared.outline.Joint.{Joint}
use Rattle.cells.specs.declared.outline.Rules.{Rules}
use Rattle.cells.specs.Problem.{item_of}
use Rattle.cells.specs.Outline.{rule_in, best_in}
use Rattle.cells.specs.Work.{held_branch, held_row}
use Rattle.cells.specs.Stretch.{reach_of}
use Rattle.engine.specs.declared.best.Best.{Best}
use Rattle.engine.specs.declared.choice.Choice.{Choice}

abbrev pub greatest_of : Best → Greatest
greatest_of b = record { value = b.value; index = b.index }

-- the best of the root's cells at an allowance, and its start state, less 1
abbrev pub root_best : Shape → List ℕ → (c : ℕ) → Greatest
root_best sh w c = argmax (λ s. guard (has_mark sh.starts.0 (suc s)) (held_branch sh w 1 (suc s) c)) sh.states

-- the number, if any, is the first below n at which f says the goal
abbrev pub FirstAt : (f : ℕ → ℕ) (goal n : ℕ) → Option ℕ → Type 0
FirstAt f goal n None = (m : ℕ) → m < n → f m ≡ goal → ⊥
FirstAt f goal n (Some r) = (r < n) × (f r ≡ goal) × ((m : ℕ) → m < r → f m ≡ goal → ⊥)

-- what a row rule reaches where the joint's branch gets the part a of the allowance c
abbrev pub split_at : Shape → List ℕ → Joint → ℕ → Transition → ℕ → ℕ
split_at sh w t c r a = held_branch sh w t.load r.label a ⊕ held_row sh w t.rest r.to (c - a)

-- the allowance of what a rule joins: the power of the load by itself, or the smallest for its branch that does
abbrev pub share_if : Bool → Shape → List ℕ → Joint → ℕ → Transition → ℕ
share_if false sh w t c r = draw (item_of t.item) r.label
share_if true sh w t c r = (shares (held_branch sh w t.load r.label) (held_row sh w t.rest r.to) c).index

abbrev pub share_of : Shape → List ℕ → Joint → ℕ → Transition → ℕ
share_of sh w t = share_if t.branch sh w t

-- the number, if any, is the share with which the goal is reached
abbrev pub Reaches : (reach share goal : ℕ) → Option ℕ → Type 0
Reaches reach share goal None = reach ≡ goal → ⊥
Reaches reach share goal (Some r) = (reach ≡ goal) × (r ≡ share)

-- what is chosen by rule j
abbrev pub choice_by : Shape → List ℕ → Joint → (c j : ℕ) → Transition → Choice
choice_by sh w t c j r = record {
  rule = suc j;
  label = r.label;
  share = share_of sh w t c r;
  rest = t.rest;
  stage = r.to;
  left = c - share_of sh w t c r;
}

-- what is chosen of these rules: the lowest that reaches the best
unfoldable pub choice_in : Shape → (o w : List ℕ) → Joint → Rules → (c : ℕ) → Choice
choice_in sh o w t r c = (let j = (best_in o r (reach_of sh w t c)).index in choice_by sh w t c j (rule_in o r.at j))
