-- The judge's answer.
-- It stands for "The judge takes three numbers for each load (state, load rule, row rule) in load order and says yes or no. A number that
-- names nothing in the book makes it no." of paper 01, and for its causes 1, 4 and 5. Assumes nothing.
use Rattle.std.specs.Prelude.{ℕ, zero, suc, ◌+◌, ◌*◌, Bool, false, not, Result, Ok, Err, List, eqb, length, get_or}
use Rattle.lists.specs.Tests.{pick}
use Rattle.tables.specs.declared.tables.StoredTables.{StoredTables}
use Rattle.tables.specs.declared.refusal.Refusal.{Refusal}
use Rattle.tables.specs.declared.refusal.Refusal.TheVariants.{Unusable, NoLoads, OutOfRange}
use Rattle.tables.specs.Refusals.{number_of}
use Rattle.tables.specs.Tables.{Tables}
use Rattle.tables.specs.Stored.{tables_of, keeps_limits}
use Rattle.meaning.specs.Forest.{planned, tree}
use Rattle.meaning.specs.Runs.{Assigned}
use Rattle.meaning.specs.Judge.{judge_tree}

-- what the numbers give each load: "three numbers for each load (state, load rule, row rule) in load order"
abbrev pub proposed : List ℕ → ℕ → Assigned
proposed ns zero = record { state = 0; load_rule = 0; row_rule = 0 }
proposed ns (suc j) = record { state = get_or ns (3 * j) 0; load_rule = get_or ns (3 * j + 1) 0; row_rule = get_or ns (3 * j + 2) 0 }

-- are the numbers a run?
abbrev pub is_run : Tables → List ℕ → Bool
is_run t ns = judge_tree t.book (proposed ns) (tree planned t.loads)

-- what the judge says: the number of its refusal, 0 where it judges, and then yes or no
pub record Said : Type 0 where
  pub number : ℕ
  pub yes : Bool

-- for each answer paper 01's number and value: a refusal's number of "Causes and numbers"; else it "says yes or no"
abbrev pub said_by : Result Bool Refusal → Said
said_by (Err r) = record { number = number_of r; yes = false }
said_by (Ok b) = record { number = 0; yes = b }

-- "a planner handed in that breaks a limit (judge: only this)", "judge with no loads", "judge given not three numbers for each load"; "The lowest
-- number that applies is given."
unfoldable pub judged : StoredTables → List ℕ → Result Bool Refusal
judged s ns =
    let n = length (tables_of s).loads in
    pick (not (keeps_limits s)) (Err Unusable)
    (pick (eqb n 0) (Err NoLoads)
    (pick (not (eqb (length ns) (3 * n))) (Err OutOfRange)
    (Ok (is_run (tables_of s) ns))))
