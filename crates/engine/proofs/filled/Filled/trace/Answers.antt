-- `trace` meets its contract: the loads are passed one by one. Assumes nothing.
use Prim.Native.Nat.{ℕ, suc, ◌+◌, ◌≤◌, ◌<◌}
use mathlib.Core.Path.{◌≡◌, refl, sym, ap, ap₂, ◌∙◌, subst}
use mathlib.Core.List.{List, []}
use Rattle.std.specs.Prelude.{Option, Some, replicate}
use native.Mathlib.Nat.{le_refl}
use native.Mathlib.Numerals.{add-one}
use native.Mathlib.Omega.{arith}
use Rattle.lists.specs.Arrays.{laid}
use Rattle.lists.specs.Argmax.{Greatest}
use Rattle.lists.proofs.Argmax.{argmax-found}
use Rattle.tables.specs.Limits.{max_loads, max_states}
use Rattle.meaning.specs.Choice.{in_order}
use Rattle.cells.specs.declared.problem.Problem.{Problem}
use Rattle.cells.specs.declared.problem.Shape.{Shape}
use Rattle.cells.specs.Problem.{book_for, loads_for, items_for, shape_of}
use Rattle.cells.specs.Work.{branch_for, Ready}
use Rattle.runs.specs.declared.run.Run.{Run}
use Rattle.runs.specs.Runs.{mark_all, run_of}
use Rattle.runs.specs.Outcome.{no_set, stored_outcome}
use Rattle.runs.proofs.Stored.{found_none, found_some}
use Rattle.engine.specs.declared.best.Best.{Best}
use Rattle.engine.specs.declared.choice.Choice.{Choice}
use Rattle.engine.specs.declared.pass.Pass.{Pass}
use Rattle.engine.specs.Search.{greatest_of, root_best}
use Rattle.engine.specs.Parts.{start_best}
use Rattle.engine.specs.Pass.{best_for, entries_for, answer_to, no_entrance, Complete, load_choice, passed_load, Passed}
use Rattle.engine.proofs.Search.{some_same, none-some}
use Rattle.engine.proofs.Passing.{pass-root}
use Rattle.engine.proofs.Reading.{start-index, start-value, start-pos, start-used, start-possible, Promised, whole, budget-is, load_is}
use Rattle.engine.proofs.filled.Filled.trace.Goals as goal

abbrev start : Pass
start = record { run = run_of max_loads []; rows = replicate max_loads no_entrance }

-- the best start state of an outline
abbrev BestStart : Shape → List ℕ → Best → Type 0
BestStart sh w b = greatest_of b ≡ root_best sh w sh.budget

-- it is one of the shape's states, whatever the cells hold
index_in : (sh : Shape) (w : List ℕ) (b : Best) → BestStart sh w b → (b.value ≡ 0 → ⊥) → b.index < sh.states
index_in sh w b e found =
    let pos : 0 < (root_best sh w sh.budget).value = omega (arith, ap (λ (g : Greatest). g.value) e) in
    omega (arith, ap (λ (g : Greatest). g.index) e, (argmax-found _ sh.states pos).0)

-- whatever problem the outline is of
module _ (p : Problem) (sh : Shape) (o w : List ℕ) (all : Complete p sh o w) (b : Best) (eb : BestStart sh w b) where
  own : BestStart (shape_of p) w b
  own = subst (λ (y : Shape). BestStart y w b) all.outlined.shape eb

  value : b.value ≡ best_for p
  value = start-value p o w (whole p sh o w all) b own

  nothing : b.value ≡ 0 → stored_outcome max_loads no_set ≡ answer_to p
  nothing e = ap (stored_outcome max_loads) (found_none (best_for p) (in_order (entries_for p) 1 p.tables.loads.count) (sym value ∙ e))

  module _ (found : b.value ≡ 0 → ⊥) where
    used : b.index < p.tables.book.states
    used = start-used p o w (whole p sh o w all) b own found

    abbrev best : ℕ
    best = (start_best (book_for p) (items_for p) (loads_for p) p.tables.budget).index

    root-choice : (d : Option Choice) → Promised sh o w 1 b.index sh.budget d → d ≡ Some (load_choice p 1 (suc best) p.tables.budget)
    root-choice d h =
        load_is p sh o w all 0 b.index p.tables.budget all.some (le_refl _) d (subst (λ c. Promised sh o w 1 b.index c d) (budget-is p sh o w all) h) used
        (subst (λ q. 0 < branch_for p 1 q p.tables.budget) (add-one b.index) (start-possible p o w (whole p sh o w all) b own found))
        ∙ ap (λ q. Some (load_choice p 1 (suc q) p.tables.budget)) (start-index p o w (whole p sh o w all) b own)

    passed : (d : Choice) → d ≡ load_choice p 1 (suc best) p.tables.budget → (t : Pass) → t ≡ passed_load start 1 0 (b.index + 1) d → Passed p 1 t
    unfolding run_of laid mark_all
    passed d ed t et =
        let path = et ∙ ap₂ (λ (q : ℕ) (d : Choice). passed_load start 1 0 q d) (add-one b.index ∙ ap suc (start-index p o w (whole p sh o w all) b own)) ed in
        subst (Passed p 1) (sym path)
        (pass-root p all.outlined.lawful all.some (start-pos p o w (whole p sh o w all) b own found) start refl refl)

    whole_run : (s : Pass) (i : ℕ) → i ≡ p.tables.loads.count → Passed p i s → record { status = 2; run = s.run } ≡ answer_to p
    whole_run s i e h =
        ap (λ (r : Run). record { status = 2; run = r }) (h.run ∙ ap (λ k. run_of max_loads (in_order (entries_for p) 1 k)) e)
        ∙ ap (stored_outcome max_loads) (found_some (best_for p) (in_order (entries_for p) 1 p.tables.loads.count) (omega (arith, value)))

-- the state is one of the shape's
below : (sh : Shape) (w : List ℕ) (b : Best) → BestStart sh w b → (b.value ≡ 0 → ⊥) → Ready sh w → (b.index < sh.states) × (sh.states ≤ max_states)
below sh w b e found r = (index_in sh w b e found, r.sane.states)

pub returns-then-b-eq0 : goal.returns-then-b-eq0
returns-then-b-eq0 c =
    let a = c.args.self.now in
    λ p all. nothing p a.shape a.outline.now a.cells.now all c.best_start-b.result c.best_start-b.ensures c.if-b-eq0.true

pub choose-requires : goal.choose-requires
choose-requires c =
    let a = c.args.self.now in
    (omega arith, omega (arith, a.some), omega (arith, index_in a.shape a.cells.now c.best_start-b.result c.best_start-b.ensures c.if-b-eq0.false), le_refl _)

pub returns-in_err-root : goal.returns-in_err-root
returns-in_err-root c =
    let a = c.args.self.now in
    λ p all. absurd (none-some (root-choice p a.shape a.outline.now a.cells.now all c.best_start-b.result c.best_start-b.ensures c.if-b-eq0.false _ c.in_err-root.ensures.right))

pub overflow_add-b : goal.overflow_add-b
overflow_add-b c =
    let a = c.args.self.now in omega (arith, below a.shape a.cells.now c.best_start-b.result c.best_start-b.ensures c.if-b-eq0.false a.ready)

pub overflow_cast-b : goal.overflow_cast-b
overflow_cast-b c =
    let a = c.args.self.now in omega (arith, below a.shape a.cells.now c.best_start-b.result c.best_start-b.ensures c.if-b-eq0.false a.ready)

pub loop-i-init : goal.loop-i-init
unfolding run_of laid mark_all
loop-i-init c =
    let a = c.args.self.now in (
      omega arith,
      omega (arith, a.some),
      λ p all.
          let d = some_same (root-choice p a.shape a.outline.now a.cells.now all c.best_start-b.result c.best_start-b.ensures c.if-b-eq0.false _ c.in_ok-root.ensures.right) in
          passed p a.shape a.outline.now a.cells.now all c.best_start-b.result c.best_start-b.ensures c.if-b-eq0.false _ d _ c.with-s.ensures,
    )

pub loop-i-preserved : goal.loop-i-preserved
loop-i-preserved c =
    let l = c.loop-i in (
      omega arith,
      omega (arith, c.loop-i-test.true),
      λ p all. c.in_ok-s.ensures p all (l.invariant.2 p all) l.invariant.0 (omega (arith, c.loop-i-test.true, ap (λ (y : Shape). y.loads) all.outlined.shape)),
    )

pub returns : goal.returns
returns c =
    let l = c.loop-i in
    let a = c.args.self.now in
    λ p all. whole_run p a.shape a.outline.now a.cells.now all c.best_start-b.result c.best_start-b.ensures c.if-b-eq0.false l.s l.i
    (omega (arith, l.invariant.1, c.loop-i-test.false, ap (λ (y : Shape). y.loads) all.outlined.shape)) (l.invariant.2 p all)
