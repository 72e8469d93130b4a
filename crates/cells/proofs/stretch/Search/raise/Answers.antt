-- `raise` meets its contract: before each turn the strip is raised to the best of the rules below the next one. Assumes nothing.
use Prim.Native.Nat.{ℕ, zero-le}
use mathlib.Core.Path.{◌≡◌, subst}
use mathlib.Core.List.{List}
use native.Mathlib.Omega.{arith}
use Rattle.cells.specs.declared.problem.Shape.{Shape}
use Rattle.cells.specs.declared.outline.Joint.{Joint}
use Rattle.cells.specs.declared.outline.Rules.{Rules}
use Rattle.cells.specs.Outline.{joint_in, rules_in, best_in}
use Rattle.cells.specs.Strip.{Raised}
use Rattle.cells.specs.Stretch.{reach_of, reached, Sound}
use Rattle.cells.proofs.InRange.{looked-up}
use Rattle.cells.proofs.Strips.{raised-agree, raised-start}
use Rattle.cells.proofs.Served.{reach-leading, fits-leading}
use Rattle.cells.proofs.Rules.{term, next-met, next-walk, strip-next, strip-raised}
use Rattle.cells.proofs.stretch.Search.raise.Goals as goal

-- a strip keeps its length
as-long : {sh : Shape} {w s u : List ℕ} {t : Joint} {from m n : ℕ} {f : ℕ → ℕ} → m ≡ n → (Sound sh w t m → Raised s u from m f)
    → Sound sh w t n → Raised s u from n f
as-long {sh} {w} {s} {u} {t} {from} {f = f} e = subst (λ z. Sound sh w t z → Raised s u from z f) e

-- the joint and the rules are those that were looked up
as-told : (sh : Shape) (o w s u : List ℕ) (k x from to : ℕ) (t : Joint) (r : Rules) → t ≡ joint_in sh o k x → r ≡ rules_in sh o x
    → (Sound sh w t to → Raised s u from to (λ a. (best_in o r (reach_of sh w t a)).value))
    → Sound sh w (joint_in sh o k x) to → Raised s u from to (reached sh o w k x)
as-told sh o w s u k x from to t r et er h =
    subst (λ y. Sound sh w y to → Raised s u from to (λ a. (best_in o (rules_in sh o x) (reach_of sh w y a)).value)) et
    (subst (λ y. Sound sh w t to → Raised s u from to (λ a. (best_in o y (reach_of sh w t a)).value)) er h)

pub joint_at-t-requires : goal.joint_at-t-requires
joint_at-t-requires c = (c.args.self.now.fits.long, omega (arith, c.requires.k_nonzero.1, c.args.self.now.ready.sane.loads))

pub rules_at-r-requires : goal.rules_at-r-requires
rules_at-r-requires c =
    (c.args.self.now.fits.long, omega (arith, c.requires.k_nonzero.2, c.args.self.now.ready.sane.states, c.args.self.now.ready.sane.stages))

pub next_rule-next-requires : goal.next_rule-next-requires
next_rule-next-requires c =
    let s = c.args.self.now in
    let n = c.requires.k_nonzero in
    let f = looked-up s.shape s.outline.now s.fits c.args.k c.args.x n.0 n.1 _ _ c.joint_at-t.ensures c.rules_at-r.ensures in
    (f.1.few, f.1.room, zero-le)

pub loop-next-init : goal.loop-next-init
loop-next-init c =
    let s = c.args.self.now in
    let n = c.next_rule-next.ensures in
    let r = c.rules_at-r.result in
    let reach = reach_of s.shape s.work.now c.joint_at-t.result in record {
      met = next-met s.outline.now r _ _ n;
      ruled = λ h. strip-next s.outline.now r reach _ (raised-start (λ a. term s.outline.now r (reach a)) _ _ _) zero-le n;
    }

pub lead_of-lead-requires : goal.lead_of-lead-requires
lead_of-lead-requires c =
    let s = c.args.self.now in
    let n = c.requires.k_nonzero in
    let f = looked-up s.shape s.outline.now s.fits c.args.k c.args.x n.0 n.1 _ _ c.joint_at-t.ensures c.rules_at-r.ensures in
    let m = rw c.in-Some.is at c.loop-next.invariant.met in
    (omega (arith, m.0, f.1.few), f.1.room)

pub by_rule-requires : goal.by_rule-requires
by_rule-requires c =
    let s = c.args.self.now in
    let n = c.requires.k_nonzero in
    let f = looked-up s.shape s.outline.now s.fits c.args.k c.args.x n.0 n.1 _ _ c.joint_at-t.ensures c.rules_at-r.ensures in
    let m = rw c.in-Some.is at c.loop-next.invariant.met in
    record {
      fits = (f.0, fits-leading s.shape s.outline.now c.rules_at-r.result.at c.in-Some.j _ c.lead_of-lead.ensures _ (f.1.each c.in-Some.j m.0));
      to_bound = omega (arith, c.requires.to_bound, c.loop-next.auto.strip);
    }

pub overflow_add-j : goal.overflow_add-j
overflow_add-j c =
    let s = c.args.self.now in
    let n = c.requires.k_nonzero in
    let f = looked-up s.shape s.outline.now s.fits c.args.k c.args.x n.0 n.1 _ _ c.joint_at-t.ensures c.rules_at-r.ensures in
    let m = rw c.in-Some.is at c.loop-next.invariant.met in
    omega (arith, m.0, f.1.few)

pub next_rule-next-requires-in-Some : goal.next_rule-next-requires-in-Some
next_rule-next-requires-in-Some c =
    let s = c.args.self.now in
    let n = c.requires.k_nonzero in
    let f = looked-up s.shape s.outline.now s.fits c.args.k c.args.x n.0 n.1 _ _ c.joint_at-t.ensures c.rules_at-r.ensures in
    let m = rw c.in-Some.is at c.loop-next.invariant.met in
    (f.1.few, f.1.room, omega (arith, m.0))

pub loop-next-smaller : goal.loop-next-smaller
loop-next-smaller c =
    let s = c.args.self.now in
    let m = rw c.in-Some.is at c.loop-next.invariant.met in
    let w = next-walk s.outline.now c.rules_at-r.result _ (omega (arith, m.0)) c.next_rule-next-in-Some.ensures in
    rw c.in-Some.is (omega (arith, m.0, w.0))

pub loop-next-preserved : goal.loop-next-preserved
loop-next-preserved c =
    let s = c.args.self.now in
    let e = c.loop-next in
    let m = rw c.in-Some.is at e.invariant.met in
    let n = c.next_rule-next-in-Some.ensures in
    let t = c.joint_at-t.result in
    let r = c.rules_at-r.result in
    let reach = reach_of s.shape s.work.now t in record {
      met = next-met s.outline.now r _ _ n;
      ruled = λ h. strip-next s.outline.now r reach _
          (strip-raised s.outline.now r reach c.in-Some.j (rw c.in-Some.is at (e.invariant.ruled h)) m.1
          (raised-agree (as-long (omega arith) c.by_rule.ensures h) _
          (λ a u v. reach-leading s.shape s.outline.now r.at c.in-Some.j _ c.lead_of-lead.ensures s.work.now t a)))
          (omega (arith, m.0)) n;
    }

pub returns : goal.returns
returns c =
    let s = c.args.self.now in
    as-told s.shape s.outline.now s.work.now c.args.strip.now c.loop-next.strip c.args.k c.args.x c.args.from _ _ _
    c.joint_at-t.ensures c.rules_at-r.ensures (λ h. rw c.in_default.is at (c.loop-next.invariant.ruled h))
