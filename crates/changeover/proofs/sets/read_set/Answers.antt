-- `read_set` meets its contract. Assumes nothing.
use mathlib.Core.Path.{sym, subst, ◌∙◌}
use Rattle.changeover.specs.Sets.{ReadAs}
use Rattle.changeover.proofs.Handed.{set_read, set-read-as, no-set-read}
use Rattle.changeover.proofs.sets.read_set.Goals as goal

pub returns-in-Check : goal.returns-in-Check
returns-in-Check c =
    let a = c.args in
    rw c.then_some.ensures
    (subst (λ x. ReadAs a.loads a.s.now (set_read a.loads x)) (sym (sym c.in-Check.is ∙ c.read_bits.ensures)) (set-read-as a.loads a.s.now))

pub returns-in_default : goal.returns-in_default
returns-in_default c =
    let a = c.args in
    subst (ReadAs a.loads a.s.now) (sym (no-set-read a.loads c.read_bits.result c.in_default.not-Check))
    (subst (λ x. ReadAs a.loads a.s.now (set_read a.loads x)) (sym c.read_bits.ensures) (set-read-as a.loads a.s.now))
