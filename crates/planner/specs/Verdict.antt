-- What the judge answers of a planner, whose limits are those of the tables and of the outcome beside them.
-- It stands for "A stored figure out of range for the tables is refusal 1" of request Five of paper 02, for the judge. Assumes nothing.
use Rattle.std.specs.Prelude.{ℕ, ◌≡◌, Bool, true, false, Result, Err, List, ◌↔◌}
use Rattle.lists.specs.Tests.{pick}
use Rattle.tables.specs.declared.refusal.Refusal.{Refusal}
use Rattle.tables.specs.declared.refusal.Refusal.TheVariants.{Unusable}
use Rattle.judge.specs.Verdict.{judged}
use Rattle.judge.specs.Claims.{CaseOf}
use Rattle.calls.specs.State.{StoredState, keeps}

-- "a planner handed in that breaks a limit .. (judge: only this)": 1; else the judge's answer on its tables
unfoldable pub judged_by : StoredState → List ℕ → Result Bool Refusal
judged_by p ns = pick (keeps p) (judged p.tables ns) (Err Unusable)

-- the case of each answer
abbrev pub CaseBy : StoredState → List ℕ → Result Bool Refusal → Type 0
CaseBy p ns (Err Unusable) = keeps p ≡ false
CaseBy p ns v = (keeps p ≡ true) × CaseOf p.tables ns v

-- each answer is given exactly in its case
abbrev pub JudgesExactly : Type 0
JudgesExactly = (p : StoredState) (ns : List ℕ) (v : Result Bool Refusal) → (judged_by p ns ≡ v) ↔ CaseBy p ns v
