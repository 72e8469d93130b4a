-- The judge says yes exactly to runs.
-- Assumes nothing.
use Prim.Native.Nat.{ℕ, zero, suc, ◌<◌}
use mathlib.Core.Path.{◌≡◌, refl}
use mathlib.Core.Bool.{Bool, false, ◌&&◌}
use mathlib.Core.List.{List}
use lib.Dec.{T, ltb, eqb, ltb→lt, lt→ltb, eqb→eq}
use lib.ListN.{length}
use Rattle.tables.specs.declared.rule.Transition.{Transition}
use Rattle.tables.specs.Tables.{Book}
use Rattle.meaning.specs.Runs.{is_start, is_end, rule_at, Assigned, rule, Begins, Starts, BranchRun, Run, TreeRun}
use Rattle.meaning.specs.Forest.{Item, Forest, nil, node}
use Rattle.meaning.specs.Judge.{begins, starts, judge_branch, judge, judge_tree, own_marks}
use Rattle.meaning.proofs.Optimal.{and_intro, and-elim, eqb_of}

-- a test and a statement that say the same
pub record Decides (t : Bool) (A : Type 0) : Type 0 where
  pub holds : T t → A
  pub passes : A → T t

both : {s t : Bool} {A B : Type 0} → Decides s A → Decides t B → Decides (s && t) (A × B)
both {s} {t} f g =
    record {
      holds = λ h. let p = and-elim s t h in (f.holds p.0, g.holds p.1);
      passes = λ h. and_intro s t (f.passes h.0) (g.passes h.1);
    }

along : {t : Bool} {A B : Type 0} → Decides t A → (A → B) → (B → A) → Decides t B
along d f g = record { holds = λ h. f (d.holds h); passes = λ b. d.passes (g b) }

same : (t : Bool) → Decides t (T t)
same t = record { holds = λ h. h; passes = λ h. h }

equal : (m n : ℕ) → Decides (eqb m n) (m ≡ n)
equal m n = record { holds = eqb→eq m n; passes = eqb_of m n }

less : (m n : ℕ) → Decides (ltb m n) (m < n)
less m n = record { holds = ltb→lt m n; passes = lt→ltb m n }

begins-decides : (ts : List Transition) (n x : ℕ) → Decides (begins ts n x) (Begins ts n x)
begins-decides ts zero x = same false
begins-decides ts (suc j) x = both (less j (length ts)) (equal (rule_at ts j).from x)

starts-decides : (b : Book) (q : ℕ) → Decides (starts b q) (Starts b q)
starts-decides b zero = same false
starts-decides b (suc s) = both (less s b.states) (same (is_start b (suc s)))

module _ (b : Book) (ρ : ℕ → Assigned) where
  branch-decides : (k : ℕ) (i : Item) (below : ℕ → Bool) (R : ℕ → Type 0) → ((g : ℕ) → Decides (below g) (R g))
      → (q : ℕ) → Decides (judge_branch b ρ k i below q) (BranchRun b (own_marks b ρ k) (ρ k).load_rule i R q)
  branch-decides k i below R f q =
      let t = rule b.load_rules (ρ k).load_rule in
      along (both (begins-decides b.load_rules (ρ k).load_rule q) (both (same (i.serves t)) (f t.to)))
      (λ p. record { begins = p.0; mark = refl; serves = p.1.0; runs = p.1.1 })
      (λ r. (r.begins, (r.serves, r.runs)))

  pub judge-decides : (f : Forest) → (g : ℕ) → Decides (judge b ρ f g) (Run b (own_marks b ρ) ρ f g)
  unfolding judge
  judge-decides nil = λ g. same (is_end b g)
  judge-decides (node k i below later) = λ g.
      let r = rule b.row_rules (ρ k).row_rule in
      along (both (begins-decides b.row_rules (ρ k).row_rule g) (both (equal r.label (ρ k).state)
      (both (branch-decides k i (judge b ρ below) (Run b (own_marks b ρ) ρ below) (judge-decides below) (ρ k).state) (judge-decides later r.to))))
      (λ p. record { begins = p.0; state = p.1.0; branches = p.1.1.0; goes = p.1.1.1 })
      (λ s. (s.begins, (s.state, (s.branches, s.goes))))

  pub judge-tree-decides : (f : Forest) → Decides (judge_tree b ρ f) (TreeRun b (own_marks b ρ) ρ f)
  unfolding judge_tree
  judge-tree-decides nil = same false
  judge-tree-decides (node k i below later) =
      along (both (starts-decides b (ρ k).state) (both (equal (ρ k).row_rule 0)
      (branch-decides k i (judge b ρ below) (Run b (own_marks b ρ) ρ below) (judge-decides below) (ρ k).state)))
      (λ p. (p.0, p.1.0, p.1.1))
      (λ r. (r.0, (r.1, r.2)))
