-- The answers of the judge: each exactly in its case, and so yes exactly to runs. Assumes nothing.
use Prim.Native.Nat.{ℕ, ◌*◌, ◌≤◌, ◌<◌}
use mathlib.Core.Path.{◌≡◌, refl, sym, subst}
use mathlib.Core.Bool.{Bool, true, false}
use mathlib.Core.List.{List}
use mathlib.Core.Logic.{◌⊎◌, inl, inr}
use native.Mathlib.Omega.{arith}
use borrow.Author.Tests.{eqb-true, eqb-false, eq-eqb, ne_eqb}
use lib.Dec.{T, eqb}
use lib.ListN.{length}
use Rattle.lists.proofs.Bools.{below_or}
use Rattle.std.specs.Prelude.{Result, Ok, Err}
use Rattle.tables.specs.declared.refusal.Refusal.{Refusal}
use Rattle.tables.specs.declared.refusal.Refusal.TheVariants.{Unusable, NoLoads, OutOfRange}
use Rattle.tables.specs.declared.tables.StoredTables.{StoredTables}
use Rattle.tables.specs.Stored.{tables_of, keeps_limits}
use Rattle.meaning.specs.Forest.{planned, tree}
use Rattle.meaning.proofs.Judge.{judge-tree-decides}
use Rattle.judge.specs.Verdict.{proposed, is_run, judged}
use Rattle.judge.specs.Claims.{IsRun, Judgeable, CaseOf, AnswersExactly}

test-true : (t : Bool) → T t → t ≡ true
test-true true h = refl
test-true false h = absurd h

module _ (s : StoredTables) (ns : List ℕ) where
  pub limit-broken : keeps_limits s ≡ false → Err Unusable ≡ judged s ns
  unfolding judged
  limit-broken e = rw e

  module _ (kept : keeps_limits s ≡ true) where
    pub no-loads : length (tables_of s).loads ≡ 0 → Err NoLoads ≡ judged s ns
    unfolding judged
    no-loads e = rw (kept, eq-eqb (length (tables_of s).loads) 0 e)

    module _ (some : 0 < length (tables_of s).loads) where
      pub not_three : (length ns ≡ 3 * length (tables_of s).loads → ⊥) → Err OutOfRange ≡ judged s ns
      unfolding judged
      not_three e = rw (kept, ne_eqb (length (tables_of s).loads) 0 (omega arith), ne_eqb (length ns) (3 * length (tables_of s).loads) e)

      pub says : length ns ≡ 3 * length (tables_of s).loads → {r : Bool} → r ≡ is_run (tables_of s) ns → Ok r ≡ judged s ns
      unfolding judged
      says e h = rw (kept, ne_eqb (length (tables_of s).loads) 0 (omega arith), eq-eqb (length ns) (3 * length (tables_of s).loads) e, h)

  -- "says yes or no": by the judge of trees, which says yes exactly to runs
  runs : is_run (tables_of s) ns ≡ true → IsRun (tables_of s) ns
  runs e = (judge-tree-decides (tables_of s).book (proposed ns) (tree planned (tables_of s).loads)).holds (subst T (sym e) tt)

  passes : IsRun (tables_of s) ns → is_run (tables_of s) ns ≡ true
  passes r = test-true (is_run (tables_of s) ns) ((judge-tree-decides (tables_of s).book (proposed ns) (tree planned (tables_of s).loads)).passes r)

  answer : (v : Result Bool Refusal) → CaseOf s ns v → v ≡ judged s ns
  answer (Err Unusable) e = limit-broken e
  answer (Err NoLoads) (e, n) = no-loads e n
  answer (Err OutOfRange) (e, n, d) = not_three e n d
  answer (Err r) h = absurd h
  answer (Ok true) (j, r) = says j.lawful j.some j.three (sym (passes r))
  answer (Ok false) (j, r) = says j.lawful j.some j.three (go (is_run (tables_of s) ns) refl)
    where
      go : (b : Bool) → is_run (tables_of s) ns ≡ b → false ≡ is_run (tables_of s) ns
      go true e = absurd (r (runs e))
      go false e = sym e

  in-case : CaseOf s ns (judged s ns)
  in-case = limits (keeps_limits s) refl
    where
      given : (v : Result Bool Refusal) → CaseOf s ns v → CaseOf s ns (judged s ns)
      given v h = subst (CaseOf s ns) (answer v h) h

      said : Judgeable s ns → (b : Bool) → is_run (tables_of s) ns ≡ b → CaseOf s ns (judged s ns)
      said j true e = given (Ok true) (j, runs e)
      said j false e = given (Ok false) (j, λ r. let z : ◌≡◌ {A = ℕ} 0 1 = cc (passes r) in omega arith)

      counted : keeps_limits s ≡ true → 0 < length (tables_of s).loads
          → (b : Bool) → eqb (length ns) (3 * length (tables_of s).loads) ≡ b → CaseOf s ns (judged s ns)
      counted k n true e = said (record { lawful = k; some = n; three = eqb-true _ _ e }) (is_run (tables_of s) ns) refl
      counted k n false e = given (Err OutOfRange) (k, n, eqb-false _ _ e)

      loads : keeps_limits s ≡ true → (0 < length (tables_of s).loads) ⊎ (length (tables_of s).loads ≤ 0) → CaseOf s ns (judged s ns)
      loads k (inl n) = counted k n (eqb (length ns) (3 * length (tables_of s).loads)) refl
      loads k (inr n) = given (Err NoLoads) (k, omega arith)

      limits : (b : Bool) → keeps_limits s ≡ b → CaseOf s ns (judged s ns)
      limits true e = loads e (below_or 0 (length (tables_of s).loads))
      limits false e = given (Err Unusable) e

pub answers-exactly : AnswersExactly
answers-exactly s ns v = (λ e. subst (CaseOf s ns) e (in-case s ns), λ h. sym (answer s ns v h))
