-- The root: a tree is run exactly if load 1 is in a start state, has no row rule, and its branch is run. Assumes nothing.
use Prim.Native.Nat.{ℕ, zero, suc, ◌≤◌, ◌<◌}
use mathlib.Core.Path.{◌≡◌, refl, sym, ◌∙◌}
use mathlib.Core.Bool.{true, false, ◌&&◌}
use mathlib.Core.List.{List, [], ◌∷◌}
use native.Mathlib.Omega.{arith}
use borrow.Author.Tests.{eq-eqb, ne_eqb, le-leb, lt-leb}
use lib.Dec.{eqb, leb}
use lib.ListN.{length, get_or}
use Rattle.lists.proofs.Bools.{and-false}
use Rattle.marks.specs.Bits.{has_mark}
use Rattle.tables.specs.declared.load.Load.{Load}
use Rattle.tables.specs.Tables.{Book, Tables}
use Rattle.meaning.specs.Forest.{planned, tree, row_at}
use Rattle.meaning.specs.Cells.{load_at, first_child}
use Rattle.meaning.specs.Runs.{is_start, Assigned}
use Rattle.meaning.specs.Judge.{starts, judge, judge_branch, judge_tree}
use Rattle.meaning.proofs.Tree.{row-after}
use Rattle.judge.specs.Verdict.{proposed, is_run}
use Rattle.judge.specs.Walk.{row_runs, branch_runs}

-- the code's test of a start state
pub start_test : (b : Book) (q : ℕ) → leb q b.states && is_start b q ≡ starts b q
unfolding has_mark
start_test b zero = and-false (leb 0 b.states)
start_test b (suc s) = refl

-- the two ways that the test goes
pub start-in : (b : Book) (q : ℕ) → q ≤ b.states → is_start b q ≡ starts b q
start-in b q h = rw (le-leb q b.states h) at (start_test b q)

pub start-out : (b : Book) (q : ℕ) → b.states < q → false ≡ starts b q
start-out b q h = rw (lt-leb q b.states h) at (start_test b q)

root-branch : (b : Book) (ρ : ℕ → Assigned) (ls : List Load) → 0 < length ls → judge_tree b ρ (tree planned ls)
    ≡ starts b (ρ 1).state
    && (eqb (ρ 1).row_rule 0
    && judge_branch b ρ 1 (planned 1 (load_at ls 1)) (judge b ρ (row_at planned ls (first_child ls 1))) (ρ 1).state)
unfolding judge_tree tree
root-branch b ρ [] h = absurd (omega arith)
root-branch b ρ (l ∷ ls) h = rw (row-after planned (l ∷ ls) 1 1)

module _ (t : Tables) (ns : List ℕ) (some : 0 < length t.loads) where
  root : is_run t ns ≡ starts t.book (get_or ns 0 0) && (eqb (get_or ns 2 0) 0 && branch_runs t (proposed ns) 1)
  unfolding branch_runs row_runs
  root = root-branch t.book (proposed ns) t.loads some

  -- the three ways out of the code
  pub root-no-start : starts t.book (get_or ns 0 0) ≡ false → false ≡ is_run t ns
  root-no-start e = sym (root ∙ rw e)

  pub root-row-rule : starts t.book (get_or ns 0 0) ≡ true → (get_or ns 2 0 ≡ 0 → ⊥) → false ≡ is_run t ns
  root-row-rule e n = sym (root ∙ rw (e, ne_eqb (get_or ns 2 0) 0 n))

  pub root-runs : starts t.book (get_or ns 0 0) ≡ true → get_or ns 2 0 ≡ 0 → branch_runs t (proposed ns) 1 ≡ is_run t ns
  root-runs e n = sym (root ∙ rw (e, eq-eqb (get_or ns 2 0) 0 n))
