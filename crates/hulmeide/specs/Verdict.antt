-- The number that C gets for the judge's answer: paper 01's number of a refusal, 0 for yes, and a number of its own for no.
-- Assumes nothing.
use Rattle.std.specs.Prelude.{ℕ, Bool, true, false, Result, Ok, Err}
use Rattle.tables.specs.declared.refusal.Refusal.{Refusal}
use Rattle.judge.specs.Verdict.{said_by}

-- above every number of a refusal
abbrev pub not_a_run : ℕ
not_a_run = 255

abbrev pub verdict_number : Result Bool Refusal → ℕ
verdict_number (Ok false) = not_a_run
verdict_number v = (said_by v).number
