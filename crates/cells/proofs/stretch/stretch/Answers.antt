-- `stretch` meets its contract: a strip of zeros is raised to what the rules reach, and stored. Assumes nothing.
use Prim.Native.Nat.{ℕ, ◌+◌, ◌≤◌, ◌<◌}
use mathlib.Core.Path.{◌≡◌, sym, ap, ◌∙◌, subst}
use mathlib.Core.List.{List}
use native.Mathlib.Omega.{arith}
use lib.ListN.{length, get_or, take, replicate, length-take, length-replicate}
use Rattle.cells.specs.declared.problem.Shape.{Shape}
use Rattle.cells.specs.Outline.{joint_in}
use Rattle.cells.specs.Work.{place_of}
use Rattle.cells.specs.Strip.{Raised, Stored}
use Rattle.cells.specs.Stretch.{reached, Sound, Worked}
use Rattle.cells.proofs.Places.{place-room}
use Rattle.cells.proofs.Strips.{zeros-raised}
use Rattle.cells.proofs.stretch.stretch.Goals as goal

module _ (sh : Shape) (o w v s : List ℕ) (k x from to : ℕ) where
  -- the strip holds what the rules reach at best
  abbrev Holds : Type 0
  Holds = Sound sh w (joint_in sh o k x) to → (a : ℕ) → from ≤ a → a < to → get_or s a 0 ≡ reached sh o w k x a

  worked : (at : ℕ) → at ≡ place_of sh k x → Holds → Stored w s v at from to → Worked sh o w v k x from to
  worked at e h d = record {
    below = λ i l. d.below i (omega arith);
    above = λ i l. d.above i (omega arith);
    inside = λ g a l m. ap (λ i. get_or v (i + a) 0) (sym e) ∙ d.inside a l m ∙ h g a l m;
  }

  -- so does one that was raised from zeros
  zeros-hold : to ≤ 512
      → (Sound sh w (joint_in sh o k x) (length (take to (replicate {A = ℕ} 512 0)))
      → Raised (take to (replicate {A = ℕ} 512 0)) s from (length (take to (replicate {A = ℕ} 512 0))) (reached sh o w k x))
      → Holds
  zeros-hold h u =
      let e : length (take to (replicate {A = ℕ} 512 0)) ≡ to = omega (arith, length-take to (replicate {A = ℕ} 512 0), length-replicate {A = ℕ} 512 0) in
      λ g. zeros-raised 512 to h
      (subst (λ n. Sound sh w (joint_in sh o k x) n → Raised (take to (replicate {A = ℕ} 512 0)) s from n (reached sh o w k x)) e u g)

pub place-at-requires : goal.place-at-requires
place-at-requires c = record { sane = c.requires.ready.0.sane; k_le_loads = (c.requires.k_nonzero.1, c.requires.k_nonzero.2) }

pub store-requires : goal.store-requires
store-requires c =
    let n = c.requires.k_nonzero in
    let r = place-room c.args.sh c.args.k c.args.x n.0 n.1 n.2 in
    let e = length-take c.args.to (replicate {A = ℕ} 512 0) in
    let z = length-replicate {A = ℕ} 512 0 in
    (omega (arith, c.raise.auto.strip, n.3), omega (arith, c.raise.auto.strip, c.place-at.ensures, c.requires.ready.0.room, n.4))

pub returns : goal.returns
returns c =
    let s = c.args in
    let n = c.requires.k_nonzero in
    let small : s.to ≤ 512 = omega (arith, n.4, c.requires.ready.0.sane.budget) in
    let e = length-take s.to (replicate {A = ℕ} 512 0) in
    let z = length-replicate {A = ℕ} 512 0 in
    let long : length c.raise.new.strip ≡ s.to = omega (arith, c.raise.auto.strip) in
    worked s.sh s.o.now s.work.now _ c.raise.new.strip s.k s.x s.from s.to _ c.place-at.ensures
    (zeros-hold s.sh s.o.now s.work.now c.store.new.work c.raise.new.strip s.k s.x s.from s.to small c.raise.ensures)
    (subst (λ m. Stored s.work.now c.raise.new.strip c.store.new.work c.place-at.result s.from m) long c.store.ensures)
