-- What an accepted drop gives: the tables without that load, and the answers of a planner into which they were entered without it.
-- Assumes nothing.
use Prim.Native.Nat.{ℕ, zero, suc, ◌-◌, ◌≤◌, ◌<◌}
use mathlib.Core.Path.{◌≡◌, refl, sym, ap, ap₂, subst, ◌∙◌}
use mathlib.Core.Bool.{Bool, true, false}
use mathlib.Core.List.{List, [], ◌∷◌, ◌++◌, map, append_assoc, map-append}
use native.Mathlib.Nat.{le_of_suc-le-suc}
use native.Mathlib.Omega.{arith}
use lib.ListN.{length, get_or, take, drop}
use Rattle.lists.specs.Each as each
use Rattle.lists.specs.Each.{Each}
use Rattle.lines.specs.declared.SaveForm.TheVariants.{Kinds}
use Rattle.lines.specs.declared.Change.{Change}
use Rattle.lines.specs.declared.Change.TheVariants as to
use Rattle.lines.specs.declared.Command.TheVariants as line
use Rattle.lines.specs.Grammar.{line_command}
use Rattle.lines.specs.Input.{lines}
use Rattle.lines.specs.Saved.{mark_change, rule_change, load_change, book_changes, saved, changes_text}
use Rattle.lines.proofs.SaveText.{each-book}
use Rattle.tables.specs.declared.rule.Sort.{Sort}
use Rattle.tables.specs.declared.rule.Sort.TheVariants as sort
use Rattle.tables.specs.declared.rule.Transition.{Transition}
use Rattle.tables.specs.declared.load.Load.{Load}
use Rattle.tables.specs.Tables.{Book, Tables, no_rule, rules_for}
use Rattle.tables.specs.Limits.{Limits}
use Rattle.tables.specs.Stored.{stored, tables_of}
use Rattle.tables.specs.Changes.{has_children, fallen, reparented, remaining, drop_load}
use Rattle.tables.proofs.Lawful.{lawful}
use Rattle.tables.proofs.Stored.{tables-stored}
use Rattle.tables.proofs.Removed.{one_fewer}
use Rattle.tables.proofs.Keeps.{drop-load-keeps}
use Rattle.meaning.proofs.Leaving.{left}
use Rattle.runs.specs.Outcome.{Outcome, nothing, stored_outcome, range_of, outcome_in}
use Rattle.calls.specs.State.{State, StoredState, stored_state, state_of, Within, Kept}
use Rattle.calls.specs.Rows.{load, changing}
use Rattle.calls.specs.Calls.{Call, Done, row_for, number_for, after, answer, called}
use Rattle.calls.specs.Demand3.{Exchange, History, on_lines, last}
use Rattle.calls.specs.Saves.{Takes, lines_of, AllFree}
use Rattle.calls.specs.Drops.{if_load, without_line, with_parent, entered_without, DropCall, SameAnswers, Dropped}
use Rattle.calls.proofs.State.{places, kept-within, kept-stored}
use Rattle.calls.proofs.Rows.{may-leave}
use Rattle.calls.proofs.Refusals.{change-row, change-after}
use Rattle.calls.proofs.Answers.{called-stored}
use Rattle.calls.proofs.Keeps.{none-of-row}
use Rattle.calls.proofs.Rebuilds.{load-accepted, rebuilds}
use Rattle.calls.proofs.Saves.{ends}

-- ---- lines that enter no load
abbrev other : Change → Bool
other c = if_load (λ p w v t. false) true c

abbrev Others : List Change → Type 0
Others cs = Each (λ c. other c ≡ true) cs

gives_other : {A : Type 0} (f : ℕ → ℕ → ℕ → ℕ → A) (a : A) (c : Change) → other c ≡ true → if_load f a c ≡ a
gives_other f a to.Clear h = refl
gives_other f a (to.Book s g) h = refl
gives_other f a (to.Start q) h = refl
gives_other f a (to.End g) h = refl
gives_other f a (to.Rule q m g t) h = refl
gives_other f a (to.Row g q m) h = refl
gives_other f a (to.Load p w v t) h = absurd (let z : ◌≡◌ {A = ℕ} 0 1 = cc in omega arith)
gives_other f a (to.Power k w) h = refl
gives_other f a (to.Worth k v) h = refl
gives_other f a (to.Budget w) h = refl
gives_other f a (to.Drop k) h = refl

without-others : (n : ℕ) {cs : List Change} → Others cs → (ds : List Change) → without_line n (cs ++ ds) ≡ cs ++ without_line n ds
unfolding without_line
without-others zero each.none ds = refl
without-others zero (each.more {x = c} h hs) ds = gives_other _ _ c h ∙ ap (λ (l : List Change). c ∷ l) (without-others zero hs ds)
without-others (suc n) each.none ds = refl
without-others (suc n) (each.more {x = c} h hs) ds = ap (λ (l : List Change). c ∷ l) (gives_other _ _ c h ∙ without-others (suc n) hs ds)

same-others : (k : ℕ) {cs : List Change} → Others cs → map (with_parent k) cs ≡ cs
same-others k each.none = refl
same-others k (each.more {x = c} {xs = cs} h hs) = λ i. gives_other (λ p w v t. to.Load (fallen k p) w v t) c c h i ∷ same-others k hs i

-- ---- a book is entered by such lines
other-mark : (k : Sort) (q : ℕ) → other (mark_change k q) ≡ true
other-mark sort.Load q = refl
other-mark sort.Row q = refl

other-rule : (k : Sort) (r : Transition) → other (rule_change k r) ≡ true
other-rule sort.Load r = refl
other-rule sort.Row r = refl

others-book : (b : Book) → Others (book_changes b)
others-book b = each-book (λ c. other c ≡ true) b refl (λ k q l. other-mark k q) (λ k j l. other-rule k (get_or (rules_for b k) j no_rule))

-- ---- the lines of the loads
without-load : (j : ℕ) (ls : List Load) (ds : List Change) → j < length ls → without_line j (map load_change ls ++ ds) ≡ map load_change (take j ls ++ drop (suc j) ls) ++ ds
unfolding without_line
without-load j [] ds b = absurd (omega arith)
without-load zero (l ∷ ls) ds b = refl
without-load (suc j) (l ∷ ls) ds b = ap (λ (cs : List Change). load_change l ∷ cs) (without-load j ls ds (le_of_suc-le-suc b))

parents : (k : ℕ) (ls : List Load) → map (with_parent k) (map load_change ls) ≡ map load_change (map (reparented k) ls)
parents k [] = refl
parents k (l ∷ ls) = ap (λ (cs : List Change). load_change (reparented k l) ∷ cs) (parents k ls)

-- ---- a save after load k has left is the save before, without its line and with the parents renumbered
pub saves-without : (t : Tables) (k : ℕ) → 1 ≤ k → k ≤ length t.loads → saved (drop_load t k) ≡ entered_without k (saved t)
unfolding saved remaining
saves-without t zero one most = absurd (omega arith)
saves-without t (suc j) one most =
    let k = suc j in
    let front = to.Clear ∷ book_changes t.book in
    let others : Others front = each.more refl (others-book t.book) in
    let end = to.Budget t.budget ∷ [] in
    let place : suc j - 1 ≡ j = omega arith in
    let ls = take j t.loads ++ drop k t.loads in
    sym (
    rw place (ap (λ (cs : List Change). map (with_parent k) (without_line j cs)) (append_assoc front (map load_change t.loads) end)
    ∙ ap (map (with_parent k)) (without-others j others (map load_change t.loads ++ end) ∙ ap (λ (cs : List Change). front ++ cs) (without-load j t.loads end most))
    ∙ map-append (with_parent k) front (map load_change ls ++ end)
    ∙ ap₂ ◌++◌ (same-others k others) (map-append (with_parent k) (map load_change ls) end ∙ ap (λ (cs : List Change). cs ++ end) (parents k ls))
    ∙ sym (append_assoc front (map load_change (map (reparented k) ls)) end))
    )

-- ---- a call on `drop,k` that was accepted
leaves : (s : State) (c : Call) (k : ℕ) → line_command c.line ≡ line.Change (to.Drop k) → number_for s c ≡ 0
    → ((1 ≤ k) × (k ≤ length s.tables.loads)) × (has_children k s.tables.loads ≡ false)
leaves s c k on accepted =
    may-leave s.tables k (rw (change-row s c (to.Drop k) on) at (none-of-row (length c.work) (length c.output) c.place (row_for s c) accepted))

no_more : (ls : List Load) → length ls ≡ 0 → ls ≡ []
no_more [] e = refl
no_more (l ∷ ls) e = absurd (omega arith)

-- on every planner that keeps the limits
pub drops : {n : ℕ} (p : StoredState) → Kept n p → (c : Call) (k : ℕ) → DropCall c k (called p c) → Dropped n (state_of p).tables k (called p c).state
unfolding answer changing outcome_in
drops {n} p h c k d = record {
  tables = held;
  kept = record { tables = (u, keeps, held, full); outcome = (nothing, in-range, wiped ∙ ap (λ (m : ℕ). stored_outcome m nothing) (full ∙ sym (places (called p c).state.tables (u, keeps, held, full)))); filled = omega (arith, none_filled) };
  fewer = fewer;
  emptied = λ e. no_more u.loads (omega (arith, fewer));
  filled = λ a b v m e. record { accepted = load-accepted t.places u.loads (load a b v m) (rw fewer e) (omega (arith, fewer, (lawful t w.tables).loads)); after = refl };
  rebuilt = λ v e. subst (λ (cs : List Change). Takes v cs u) lines_left (rebuilds u keeps v e);
  saves = ap saved (ap tables_of held ∙ tables-stored u keeps) ∙ lines_left;
  entered = enters;
  left = left t w.tables k leave.0.0 leave.0.1 leave.1;
}
  where
    s : State
    s = state_of p

    t : Tables
    t = s.tables

    u : Tables
    u = drop_load t k

    w : Within s
    w = kept-within p h

    done : called p c ≡ record { state = stored_state (after s c); reply = answer s c }
    done = ap (λ (x : StoredState). called x c) (kept-stored p h) ∙ called-stored s w c

    none : number_for s c ≡ 0
    none = sym (ap (λ (x : Done). x.reply.number) done) ∙ d.accepted

    leave : ((1 ≤ k) × (k ≤ length t.loads)) × (has_children k t.loads ≡ false)
    leave = leaves s c k d.line none

    keeps : Limits u
    keeps = drop-load-keeps t w.tables k leave.0.0 leave.0.1 leave.1

    fewer : suc (length u.loads) ≡ length t.loads
    fewer = omega (arith, one_fewer k t.loads leave.0.0 leave.0.1)

    full : u.places ≡ n
    full = places p.tables h.tables

    held : (called p c).state.tables ≡ stored u
    held = ap (λ (x : Done). x.state.tables) done ∙ ap stored (change-after s c (to.Drop k) d.line none)

    wiped : (called p c).state.outcome ≡ stored_outcome u.places nothing
    wiped =
        let none_kept : (after s c).outcome ≡ nothing = rw (none, change-row s c (to.Drop k) d.line) in
        ap (λ (x : Done). x.state.outcome) done
        ∙ ap₂ (λ (m : ℕ) (o : Outcome). stored_outcome m o) (ap (λ (x : Tables). x.places) (change-after s c (to.Drop k) d.line none)) none_kept

    none_filled : (called p c).state.filled ≡ 0
    none_filled =
        let over : (after s c).filled ≡ 0 = rw (none, change-row s c (to.Drop k) d.line) in
        ap (λ (x : Done). x.state.filled) done ∙ over

    in-range : outcome_in (range_of (tables_of (called p c).state.tables)) nothing ≡ true
    in-range = refl

    lines_left : saved u ≡ entered_without k (saved t)
    lines_left = saves-without t k leave.0.0 leave.0.1

    enters : (r : StoredState) → Kept n r → (xs : List Exchange) → History r (on_lines xs)
        → lines_of xs ≡ lines (changes_text Kinds (entered_without k (saved t))) → AllFree xs → SameAnswers (called p c).state r xs
    enters r hr xs y l f =
        let e = ends Kinds u keeps refl full r hr xs y (l ∙ ap (λ (cs : List Change). lines (changes_text Kinds cs)) (sym lines_left)) f in
        let same : (last r (on_lines xs)).tables ≡ (called p c).state.tables = ap (λ (x : StoredState). x.tables) e.last ∙ ap stored e.tables ∙ sym held in
        let gone : (last r (on_lines xs)).outcome ≡ (called p c).state.outcome = ap (λ (x : StoredState). x.outcome) e.last ∙ ap₂ (λ (x : Tables) (o : Outcome). stored_outcome x.places o) e.tables e.outcome ∙ sym wiped in
        let over : (last r (on_lines xs)).filled ≡ (called p c).state.filled = ap (λ (x : StoredState). x.filled) e.last ∙ e.filled ∙ sym none_filled in
        record { accepted = e.accepted; tables = same; answers = λ x. λ i. called (record { tables = same i; outcome = gone i; filled = over i }) x }
