-- Demands 1, 2 and 3 of the code, and what requests promise: what the promise of `Planner::call`, and for request Seven that of `fill`, comes to.
-- Assumes nothing.
use Prim.Native.Nat.{ℕ, ◌≤◌, ◌<◌}
use mathlib.Core.Path.{◌≡◌, sym, ap, subst, ◌∙◌}
use mathlib.Core.Bool.{Bool, false}
use mathlib.Core.List.{List}
use lib.Dec.{lit≤}
use Rattle.marks.specs.declared.LoadSet.{LoadSet}
use Rattle.lines.specs.declared.SaveForm.{SaveForm}
use Rattle.lines.specs.Saved.{loses_kinds}
use Rattle.lines.specs.Input.{lines}
use Rattle.std.specs.Prelude.{Result}
use Rattle.tables.specs.declared.refusal.Refusal.{Refusal}
use Rattle.tables.specs.Limits.{max_loads}
use Rattle.tables.specs.Kinds.{has_kinds}
use Rattle.meaning.specs.Kindless.{AsBefore}
use Rattle.meaning.proofs.Kindless.{as_before}
use Rattle.cells.specs.Claims.{Agree, Left, SameRow}
use Rattle.cells.proofs.Agreement.{rows_agree}
use Rattle.calls.specs.State.{Sized}
use Rattle.calls.specs.Calls.{Call, Reply, Done, written_by, called}
use Rattle.calls.specs.Portions.{PortionCall, PortionDone, Portions}
use Rattle.calls.specs.Demand1.{Demand1, PortionDemand1}
use Rattle.calls.specs.Demand2.{CheckCall, CheckRight, PlanCall, PlanRight}
use Rattle.calls.specs.Demand3.{Exchange, Event, History, on_lines, Demand3}
use Rattle.calls.specs.Padding.{SameCalls, SameTreatment}
use Rattle.calls.specs.Saves.{SaveCall, SaveRight, lines_of, AllFree, Restored}
use Rattle.calls.specs.Drops.{DropCall, Dropped}
use Rattle.calls.specs.Last.{LastCall, StoredShown}
use Rattle.calls.specs.Need.{NeedCall, NeedRight}
use Rattle.calls.proofs.State.{kept-within}
use Rattle.calls.proofs.Demand1 as paper1
use Rattle.calls.proofs.PortionDemand1.{portion-demand1}
use Rattle.calls.proofs.Demand2.{check-right}
use Rattle.calls.proofs.Plans.{plan-right}
use Rattle.calls.proofs.Demand3 as paper3
use Rattle.calls.proofs.Padding.{same-treatment}
use Rattle.calls.proofs.Saves.{save-right, restores}
use Rattle.calls.proofs.Drops.{drops}
use Rattle.calls.proofs.Last.{last_stored}
use Rattle.calls.proofs.Need.{need-called}
use Rattle.planner.specs.declared.Planner.{Planner}
use Rattle.planner.specs.Planner.{held, state_in, fresh, Lawful}
use Rattle.planner.specs.Verdict.{judged_by, CaseBy}
use Rattle.planner.proofs.Judging.{judges-exactly}
use Rattle.planner.proofs.Calling.{handles}

-- demand 1: on every planner, whatever it holds, a call gives its answer or the one refusal that applies, and leaves what the paper says
pub demand1 : {n : ℕ} (p : Planner) → Sized n (held p) → (c : Call) (d : Done) → d ≡ called (held p) c → Demand1 (held p) c d
demand1 p len c d is = subst (Demand1 (held p) c) (sym is) (paper1.demand1 (held p) len c)

-- and so does a portion
pub demand1-portion : {n : ℕ} (p : Planner) → Sized n (held p) → (c : PortionCall) (d : PortionDone) → Portions (held p) c d → PortionDemand1 (held p) c d
demand1-portion p = portion-demand1 (held p)

-- demand 2: on every planner within the limits, a check says yes exactly of the sets that the automaton accepts, and shows their lowest run
pub demand2 : (p : Planner) → Lawful p → (c : Call) (σ : LoadSet) → CheckCall (state_in p).tables c σ
    → (d : Done) → d ≡ called (held p) c → CheckRight (state_in p).tables c σ d.reply
demand2 p h c σ k d is =
    subst (λ (x : Reply). CheckRight (state_in p).tables c σ x) (sym (ap (λ (d : Done). d.reply) (is ∙ handles p h c)))
    (check-right (state_in p) (kept-within (held p) h) c σ k)

-- and a plan shows the lowest run of a best set of all that fit, with that set's own figures, or says 9 where none fits
pub demand2-plan : (p : Planner) → Lawful p → (c : Call) → PlanCall (state_in p).tables c → (d : Done) → d ≡ called (held p) c → PlanRight (state_in p).tables c d.reply
demand2-plan p h c k d is =
    subst (PlanRight (state_in p).tables c) (sym (ap (λ (d : Done). d.reply) (is ∙ handles p h c))) (plan-right (state_in p) c k (kept-within (held p) h))

-- demand 3: after every list of calls from a fresh planner it holds exactly the state that the accepted lines built, and every plan is the
-- paper's for it: the lowest run of a best set. Request Five: beside the tables it holds the outcome of the latest plan, if no line since printed
-- `ok`, else none, and every `last` shows it as `plan` would print it there. Request Nine: every `need` gives the least budget for its worth.
-- Request Eleven: the list may hold portions; while a filling's work is handed on, its cells hold the best of their branch or row, and the portion after the
-- last cell gives `plan`'s answer
pub demand3 : (xs : List Event) → History (held fresh) xs → Demand3 max_loads xs
demand3 = paper3.demand3 max_loads (lit≤ tt)

-- the judge: on every planner each answer is given exactly in its case, 1 where it breaks a limit, its outcome's too
pub judge : (p : Planner) (ns : List ℕ) (v : Result Bool Refusal) → v ≡ judged_by (held p) ns → CaseBy (held p) ns v
judge p ns v is = (judges-exactly (held p) ns v).0 (sym is)

-- requests One and Eight: on every planner, whatever it holds, lists of calls whose lines differ only in leading zeros, or in a kind 0 that is written
-- out, get the same treatment
pub padding : (p : Planner) (xs ys : List Exchange) → SameCalls xs ys → History (held p) (on_lines xs) → History (held p) (on_lines ys) → SameTreatment (held p) xs ys
padding p = same-treatment (held p)

-- requests Two and Eight: on every planner within the limits, a `save` or `save1` with the bytes that it needs writes the lines of its tables in its
-- form, or is 14 exactly where `save1` would lose a kind, and leaves everything else
pub save : (f : SaveForm) (p : Planner) → Lawful p → (c : Call) → SaveCall f c → (d : Done) → d ≡ called (held p) c → SaveRight f (held p) c d
save f p h c k d is = subst (SaveRight f (held p) c) (sym is) (save-right f (held p) h c k)

-- these lines, fed to any such planner with the bytes that they need, are accepted, give it equal tables, and a further save in the same form gives
-- equal bytes: "An old save, taken in and written with `save1`, comes back byte for byte"
pub fed-back : (f : SaveForm) (q p : Planner) → Lawful q → Lawful p → loses_kinds f (state_in q).tables ≡ false → (c : Call) → SaveCall f c → (d : Done) → d ≡ called (held q) c
    → (xs : List Exchange) → History (held p) (on_lines xs) → lines_of xs ≡ lines (written_by c d.reply) → AllFree xs → Restored f (held q) (held p) xs (written_by c d.reply)
fed-back r q p g h e c k d is xs y l f =
    let w = ap (λ (d : Done). written_by c d.reply) is in
    subst (Restored r (held q) (held p) xs) (sym w) (restores r (held q) (held p) g h e c k xs y (l ∙ ap lines w) f)

-- request Three: on every planner within the limits, an accepted drop leaves the tables without that load, with the tree and the answers of a
-- planner into which they were entered without it
pub dropped : (p : Planner) → Lawful p → (c : Call) (k : ℕ) (d : Done) → d ≡ called (held p) c → DropCall c k d → Dropped max_loads (state_in p).tables k d.state
dropped p h c k d is x =
    subst (λ (y : Done). Dropped max_loads (state_in p).tables k y.state) (sym is) (drops (held p) h c k (subst (DropCall c k) is x))

-- request Five, of a planner within the limits that was handed in with any outcome: `last` shows what is stored, and leaves everything else.
-- (What it shows after a list of lines from a fresh planner stands in demand 3.)
pub last : (p : Planner) → Lawful p → (c : Call) → LastCall c → (d : Done) → d ≡ called (held p) c → StoredShown (held p) c d
last p h c k d is = is ∙ last_stored (held p) h c k

-- request Seven: two planners that agree on book, marks and rules, on the loads of the row from load k onward and on all loads below these get the
-- same best for that row, from each stage and at each allowance within both budgets, in the cells that `fill` leaves
pub rows : (p q : Planner) (k : ℕ) → 0 < k → k ≤ p.tables.loads.count → Agree p.tables q.tables k
    → (v u : List ℕ) → Left p.tables v → Left q.tables u → SameRow p.tables q.tables v u k
rows p q = rows_agree p.tables q.tables

-- request Eight: on every planner within the limits in whose tables all kinds are 0, plan, check, runs, judge and the best of each row are those of
-- the tables without kinds
pub kindless : (p : Planner) → has_kinds (state_in p).tables ≡ false → AsBefore (state_in p).tables
kindless p = as_before (state_in p).tables

-- request Nine, of a planner within the limits: a `need,v` with output and work as counted gives the least budget whose plan has worth v or more, or 9 or
-- 15 exactly in their cases, and leaves the planner as it was. (Every `need` after a list of lines from a fresh planner stands in demand 3.)
pub need : (p : Planner) → Lawful p → (v : ℕ) (c : Call) → NeedCall (state_in p).tables v c → (d : Done) → d ≡ called (held p) c → NeedRight (state_in p).tables v (held p) c d
need p h v c k d is = subst (NeedRight (state_in p).tables v (held p) c) (sym is) (need-called (held p) h v c k)
