-- `Planner::load` meets its contract. Assumes nothing.
use Prim.Native.Nat.{ℕ, suc, ◌+◌}
use mathlib.Core.Path.{◌≡◌, sym, ap, ◌∙◌}
use mathlib.Core.List.{[], ◌∷◌}
use Rattle.std.specs.Prelude.{Err}
use native.Mathlib.Numerals.{add-one}
use native.Mathlib.Omega.{arith}
use borrow.Author.Rules.{rules}
use lib.Dec.{leb}
use lib.ListN.{length}
use Rattle.tables.specs.declared.load.Load.{Load}
use Rattle.tables.specs.declared.tables.StoredTables.{StoredTables}
use Rattle.tables.specs.declared.refusal.Refusal.{Refusal}
use Rattle.tables.specs.Refusals as no
use Rattle.tables.specs.Refusals.{number_of, numbered}
use Rattle.tables.specs.Limits.{load_in}
use Rattle.tables.specs.Stored.{tables_of}
use Rattle.tables.specs.Operations.{load_added}
use Rattle.tables.proofs.Changes.{load-added}
use Rattle.calls.specs.Rows.{◌if◌, load, changing}
use Rattle.planner.specs.declared.Planner.{Planner}
use Rattle.planner.specs.Planner.{state_in, Lawful}
use Rattle.planner.specs.Changes.{named_load}
use Rattle.calls.proofs.State.{is-stored, lawful}
use Rattle.planner.proofs.Commands.{load-lowest, load-count, few, out_of_range, operated, named-err, named-ok}
use Rattle.planner.proofs.Planner.load.Goals as goal

-- its number
abbrev number : StoredTables → ℕ
number s = suc (length (tables_of s).loads)

named : (p : Planner) → Lawful p → (l : Load) → named_load (number p.tables) l ≡ named_load (p.tables.loads.count + 1) l
named p h l = sym (ap (λ (n : ℕ). named_load n l) (add-one _ ∙ ap suc (load-count p h)))

pub overflow_add-self : goal.overflow_add-self
overflow_add-self c = omega (arith, few c.args.self c.requires)

pub named_load-requires : goal.named_load-requires
named_load-requires c = omega (arith, few c.args.self c.requires)

pub returns-in_err-load : goal.returns-in_err-load
unfolding changing named_load
returns-in_err-load c =
    let a = c.args in
    let l = load a.parent a.power a.worth a.kind in
    let n = number a.self.tables in
    let given : c.from_residual.result ≡ Err c.in_err-load.field-0.0 = search rules in
    let out = named-err (load_in n l) l (named a.self c.requires l ∙ sym c.named_load.ensures ∙ c.in_err-load.was) in
    rw given (ap (λ (z : Refusal). Err (number_of z)) (sym out.1) ∙ out_of_range (state_in a.self) (load_in n l) _ _ out.0)

pub returns : goal.returns
unfolding changing named_load
returns c =
    let a = c.args in
    let s = a.self.tables in
    let ls = (tables_of s).loads in
    let l = load a.parent a.power a.worth a.kind in
    let n = number s in
    let within = named-ok (load_in n l) l (named a.self c.requires l ∙ sym c.named_load.ensures ∙ c.in_ok-load.was) in
    operated (state_in a.self) (load_in n l) ((no.full if leb (tables_of s).places (length ls)) ∷ []) _ within.0
    (ap numbered (c.add_load.ensures ∙ ap (load_added s) within.1 ∙ ap (λ (x : StoredTables). load_added x l) (is-stored s c.requires.tables))
    ∙ rw (load-lowest (tables_of s).places ls) (load-added (tables_of s) (lawful s c.requires.tables) l))
