-- `put_loads` meets its contract: before each turn the loads after load i are written. Assumes nothing.
use Prim.Native.Nat.{ℕ, suc, ◌+◌, ◌-◌, ◌≤◌, ◌<◌}
use mathlib.Core.Path.{◌≡◌, sym, ap, subst, ◌∙◌}
use mathlib.Core.List.{List}
use native.Mathlib.Numerals.{add-one}
use native.Mathlib.Omega.{arith}
use lib.ListN.{length, get_or, replicate}
use Rattle.tables.specs.declared.load.Load.{Load}
use Rattle.tables.specs.declared.load.LoadList.{LoadList}
use Rattle.tables.specs.Tables.{no_load}
use Rattle.tables.specs.Limits.{max_loads, max_worth}
use Rattle.meaning.specs.Cell.{power_limit}
use Rattle.cells.specs.declared.problem.Problem.{Problem}
use Rattle.cells.specs.declared.problem.StoredItem.{StoredItem}
use Rattle.cells.specs.Problem.{items_for, item_of, LoadsIn}
use Rattle.cells.specs.Outline.{outline_size, with_load, LoadsPut}
use Rattle.cells.proofs.Tables.{load-at}
use Rattle.cells.proofs.Strips.{zeros}
use Rattle.cells.proofs.Outlining.{zeros-long, loads-none, loads-more}
use Rattle.cells.proofs.outline.put_loads.Goals as goal

-- the zeros at the start
zero-at : (o : List ℕ) → o ≡ replicate outline_size 0 → (m : ℕ) → get_or o m 0 ≡ 0
zero-at o e m = ap (λ (x : List ℕ). get_or x m 0) e ∙ zeros outline_size m

-- a load as its place in the array holds it
module _ (l : LoadList) (ok : LoadsIn l) (j : ℕ) (h : j < l.count) where
  figures : ((get_or l.items j no_load).power < power_limit) × ((get_or l.items j no_load).worth ≤ max_worth)
  figures = subst (λ (x : Load). (x.power < power_limit) × (x.worth ≤ max_worth)) (load-at l j h) (ok.powers j, ok.worths j)

  under : (get_or l.items j no_load).parent ≤ j
  under = subst (λ (x : Load). x.parent ≤ j) (load-at l j h) (ok.parents j)

-- a turn, as the code numbers the loads
turn : (p : Problem) → LoadsIn p.tables.loads → p.tables.loads.count ≤ max_loads → {z o : List ℕ} (j : ℕ) → j < p.tables.loads.count
    → length o ≡ outline_size → LoadsPut p z (suc j) o → (i : StoredItem) → item_of i ≡ items_for p (j + 1) (get_or p.tables.loads.items j no_load)
    → i.power < power_limit → i.worth ≤ max_worth → LoadsPut p z j (with_load o (j + 1) (get_or p.tables.loads.items j no_load).parent i)
turn p ok few {z} {o} j h n put i e a b =
    let f = load-at p.tables.loads j h in
    subst (λ x. LoadsPut p z j (with_load o x (get_or p.tables.loads.items j no_load).parent i)) (sym (add-one j))
    (subst (λ (x : Load). LoadsPut p z j (with_load o (suc j) x.parent i)) f
    (loads-more p ok few j n put h i
    (e ∙ ap (λ x. items_for p x (get_or p.tables.loads.items j no_load)) (add-one j) ∙ ap (items_for p (suc j)) (sym f)) a b))

pub loop-i-init : goal.loop-i-init
loop-i-init c = loads-none _ c.requires.lawful.loads c.requires.lawful.sane.loads _ (zero-at _ c.requires.o_value)

pub item_of-item-requires : goal.item_of-item-requires
item_of-item-requires c =
    figures c.args.p.tables.loads c.requires.lawful.loads _ (omega arith)

pub put_load-requires : goal.put_load-requires
put_load-requires c =
    let l = c.loop-i in
    let e = c.item_of-item.ensures in (
      l.auto.o ∙ zeros-long _ c.requires.o_value,
      omega (arith, c.requires.lawful.sane.loads),
      omega (arith, c.from.ensures, c.requires.lawful.sane.loads, under c.args.p.tables.loads c.requires.lawful.loads (l.i - 1) (omega arith)),
      e.1,
      e.2,
    )

pub loop-i-preserved : goal.loop-i-preserved
loop-i-preserved c =
    let s = c.args in
    let l = c.loop-i in
    let i = c.item_of-item in
    let e : l.i ≡ suc (l.i - 1) = omega arith in
    subst (λ x. LoadsPut s.p s.o.now (l.i - 1) x) (sym (c.put_load.ensures ∙ ap (λ q. with_load l.o (l.i - 1 + 1) q i.result) c.from.ensures))
    (turn s.p c.requires.lawful.loads c.requires.lawful.sane.loads (l.i - 1) (omega arith) (l.auto.o ∙ zeros-long _ c.requires.o_value)
    (subst (λ x. LoadsPut s.p s.o.now x l.o) e l.invariant) i.result i.ensures.0 i.ensures.1 i.ensures.2)

pub returns : goal.returns
returns c =
    let e : c.loop-i.i ≡ 0 = omega arith in
    subst (λ x. LoadsPut c.args.p c.args.o.now x c.loop-i.o) e c.loop-i.invariant
