-- `word_with` meets its contract. Assumes nothing.
use Prim.Native.Nat.{◌≤◌}
use Rattle.std.proofs.lemmas.Grind.{common_steps}
use native.Mathlib.Omega.{arith}
use Rattle.marks.proofs.Laws.{with-out, with_in, with_fits}
use Rattle.marks.proofs.word_with.Goals as goal

pub returns-then-contains : goal.returns-then-contains
returns-then-contains c =
    let a = c.args in
    let l : 1 ≤ a.n = grind (arith, common_steps) in
    let m : a.n ≤ a.width = grind (arith, common_steps) in
    let e = with_in a.width 64 a.word a.n (omega arith) l m in
    record { value = e; fits = λ h. rw e (with_fits a.width a.word a.n h) }

pub returns-else-contains-clause-value : goal.returns-else-contains-clause-value
returns-else-contains-clause-value c = let a = c.args in with-out a.width a.word a.n (λ p q. grind (arith, common_steps))
