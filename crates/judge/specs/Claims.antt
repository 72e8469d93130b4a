-- What is claimed of the judge's answers; proofs/Answers and proofs/Named prove it.
-- It stands for "Each is given exactly in its case." and "says yes or no" of paper 01. Assumes nothing.
use Rattle.std.specs.Prelude.{ℕ, ◌*◌, ◌≤◌, ◌<◌, ◌≡◌, Bool, true, false, Result, Ok, Err, List, ◌↔◌, length}
use Rattle.tables.specs.declared.refusal.Refusal.{Refusal}
use Rattle.tables.specs.declared.refusal.Refusal.TheVariants.{Unusable, NoLoads, OutOfRange}
use Rattle.tables.specs.declared.tables.StoredTables.{StoredTables}
use Rattle.tables.specs.Tables.{Tables}
use Rattle.tables.specs.Stored.{tables_of, keeps_limits}
use Rattle.meaning.specs.Forest.{planned, tree}
use Rattle.meaning.specs.Runs.{TreeRun, named}
use Rattle.meaning.specs.Judge.{own_marks}
use Rattle.judge.specs.Verdict.{proposed, judged}

-- the numbers are a run, of the set of their own marks
abbrev pub IsRun : Tables → List ℕ → Type 0
IsRun t ns = TreeRun t.book (own_marks t.book (proposed ns)) (proposed ns) (tree planned t.loads)

-- tables that keep the limits and have a load, with three numbers for each load
pub record Judgeable (s : StoredTables) (ns : List ℕ) : Type 0 where
  pub lawful : keeps_limits s ≡ true
  pub some : 0 < length (tables_of s).loads
  pub three : length ns ≡ 3 * length (tables_of s).loads

-- the case of each answer, by the rows 1, 4 and 5 of "Causes and numbers"; of the lowest number that applies. No other refusal is given
abbrev pub CaseOf : StoredTables → List ℕ → Result Bool Refusal → Type 0
CaseOf s ns (Err Unusable) = keeps_limits s ≡ false
CaseOf s ns (Err NoLoads) = (keeps_limits s ≡ true) × (length (tables_of s).loads ≡ 0)
CaseOf s ns (Err OutOfRange) = (keeps_limits s ≡ true) × (0 < length (tables_of s).loads) × (length ns ≡ 3 * length (tables_of s).loads → ⊥)
CaseOf s ns (Err r) = ⊥
CaseOf s ns (Ok true) = Judgeable s ns × IsRun (tables_of s) ns
CaseOf s ns (Ok false) = Judgeable s ns × (IsRun (tables_of s) ns → ⊥)

-- each answer is given exactly in its case: yes exactly to runs
abbrev pub AnswersExactly : Type 0
AnswersExactly = (s : StoredTables) (ns : List ℕ) (v : Result Bool Refusal) → (judged s ns ≡ v) ↔ CaseOf s ns v

-- "A number that names nothing in the book makes it no.": where the answer is yes, every number names something
abbrev pub YesNames : Type 0
YesNames = (s : StoredTables) (ns : List ℕ) → judged s ns ≡ Ok true
    → (k : ℕ) → 0 < k → k ≤ length (tables_of s).loads → named (tables_of s).book k (proposed ns k) ≡ true
