-- What the judge says of runs on the tree of "One session, whole" of paper 01, by computation. Assumes nothing.
use Prim.Native.Nat.{ℕ}
use mathlib.Core.Path.{◌≡◌, refl}
use mathlib.Core.Bool.{Bool, true, false}
use mathlib.Core.List.{List, [], ◌∷◌}
use Rattle.marks.specs.Bits.{has_mark}
use Rattle.tables.specs.Tables.{Book}
use Rattle.tables.specs.Limits.{max_loads}
use Rattle.meaning.specs.Forest.{row, tree}
use Rattle.meaning.specs.Judge.{judge, judge_tree}
use Rattle.meaning.specs.Cases.{four_loads, book_f, book_k}
use Rattle.judge.specs.Verdict.{is_run}

on-four : Book → List ℕ → Bool
on-four b ns = is_run (record { book = b; loads = four_loads; budget = 0; places = max_loads }) ns

-- the run that the plan of the session shows
session : on-four book_f (1 ∷ 2 ∷ 0 ∷ 1 ∷ 2 ∷ 1 ∷ 1 ∷ 2 ∷ 1 ∷ 1 ∷ 1 ∷ 1 ∷ []) ≡ true
unfolding on-four has_mark row tree judge judge_tree
session = refl

-- the same with row rule 1 at the root
root-with-row-rule : on-four book_f (1 ∷ 2 ∷ 1 ∷ 1 ∷ 2 ∷ 1 ∷ 1 ∷ 2 ∷ 1 ∷ 1 ∷ 1 ∷ 1 ∷ []) ≡ false
unfolding on-four has_mark row tree judge judge_tree
root-with-row-rule = refl

-- the same with a load rule that is not in the book at load 4
no-such-rule : on-four book_f (1 ∷ 2 ∷ 0 ∷ 1 ∷ 2 ∷ 1 ∷ 1 ∷ 2 ∷ 1 ∷ 1 ∷ 4 ∷ 1 ∷ []) ≡ false
unfolding on-four has_mark row tree judge judge_tree
no-such-rule = refl

-- book K, group 2 and 4 below a root that is off: its row of children goes from stage 3 by row rule 4 to stage 1, and on by row rule 1
one-group : on-four book_k (1 ∷ 1 ∷ 0 ∷ 1 ∷ 2 ∷ 4 ∷ 3 ∷ 5 ∷ 1 ∷ 2 ∷ 4 ∷ 2 ∷ []) ≡ true
unfolding on-four has_mark row tree judge judge_tree
one-group = refl

-- a second group, load 3, would need the row to be at stage 3 again
two-groups : on-four book_k (1 ∷ 1 ∷ 0 ∷ 1 ∷ 2 ∷ 4 ∷ 1 ∷ 2 ∷ 4 ∷ 2 ∷ 4 ∷ 2 ∷ []) ≡ false
unfolding on-four has_mark row tree judge judge_tree
two-groups = refl

-- a leaf whose load rule ends at stage 3, which is no end stage: load 3 in state 1, off
leaf-not-at-end : on-four book_k (1 ∷ 1 ∷ 0 ∷ 3 ∷ 5 ∷ 3 ∷ 1 ∷ 1 ∷ 4 ∷ 3 ∷ 5 ∷ 1 ∷ []) ≡ false
unfolding on-four has_mark row tree judge judge_tree
leaf-not-at-end = refl
