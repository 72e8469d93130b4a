-- `read_bits` meets its contract. The invariant: what all the bits give is what those from here on give. Assumes nothing.
use mathlib.Core.Path.{sym, ◌∙◌}
use native.Mathlib.Omega.{arith}
use borrow.Author.Rules.{rules}
use Rattle.lines.proofs.Bits.{bits-begin, bits_none, bits-all, bits-on, bits-off, bits-bad, bits-after}
use Rattle.lines.proofs.reading.read_bits.Goals as goal
use Rattle.lines.proofs.reading.read_bits.Goals.{in-48, in-49}

pub loop-b-init : goal.loop-b-init
loop-b-init c = (bits-begin _, omega arith)

pub overflow_add-count : goal.overflow_add-count
overflow_add-count c = omega (arith, c.loop-b.invariant.1, c.loop-b-test.true)

pub returns-in_default : goal.returns-in_default
returns-in_default c =
    rw (← bits-after c.args.s.now c.args.start c.min.result c.min.ensures)
    (sym (c.loop-b.invariant.0 ∙ bits-bad _ _ _ _ c.loop-b-test.true (λ e. absurd (search rules)) (λ e. absurd (search rules))))

pub loop-b-preserved : goal.loop-b-preserved
loop-b-preserved c = (
  c.loop-b.invariant.0 ∙ elim c.match-b.branch [
    | in-48 w ↦ bits-off _ _ _ _ c.loop-b-test.true (omega (arith, w.in-48.is)) (omega (arith, w.in-48.is)) (λ e. absurd (omega (arith, w.in-48.is))) w.set-is
    | in-49 w ↦ bits-on _ _ _ _ c.loop-b-test.true (omega (arith, w.in-49.is)) (omega (arith, w.in-49.is)) w.in-49.is (w.set-is ∙ w.with-set.ensures)
  ],
  omega arith,
)

pub returns-then-count-eq0 : goal.returns-then-count-eq0
returns-then-count-eq0 c = rw (← bits-after c.args.s.now c.args.start c.min.result c.min.ensures) (sym (c.loop-b.invariant.0 ∙ bits_none _ _ _ _ c.loop-b-test.false c.if-count-eq0.true))

pub returns : goal.returns
returns c = rw (← bits-after c.args.s.now c.args.start c.min.result c.min.ensures) (sym (c.loop-b.invariant.0 ∙ bits-all _ _ _ _ c.loop-b-test.false c.if-count-eq0.false))
