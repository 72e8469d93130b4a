-- `main` is safe and ends: each read adds a chunk to those that led here. Assumes nothing.
use Prim.Native.Nat.{ℕ}
use mathlib.Core.Path.{◌≡◌, sym, ap, ◌∙◌}
use mathlib.Core.List.{List, [], ◌∷◌, ◌++◌}
use lib.ListN.{take}
use Rattle.calls.specs.Program.{Carried, after_chunk, after_chunks, started, lent_cells}
use Rattle.calls.proofs.Program.{chunks-more}
use Rattle.load_planner.specs.Session.{Stepped, Ran}
use Rattle.load_planner.proofs.main.Goals as goal

ran-none : (x : Carried) → x ≡ started lent_cells → Ran x
unfolding after_chunks
ran-none x e = record { chunks = []; taken = e }

ran-more : {x y : Carried} {b : List ℕ} → Ran x → Stepped x y b → Ran y
ran-more {b} r s = record { chunks = r.chunks ++ (take s.count b ∷ []); taken = s.taken ∙ ap (λ (x : Carried). after_chunk x (take s.count b)) r.taken ∙ sym (chunks-more r.chunks (started lent_cells) (take s.count b)) }

pub loop-init : goal.loop-init
loop-init c = λ _. ran-none _ c.start-session.ensures.start

pub loop-preserved : goal.loop-preserved
loop-preserved c = λ e. ran-more (c.loop.invariant c.if-not-session.false) (c.step.ensures e)
