-- Demand 3: one theorem about lists of calls, on lines and on portions. Assumes nothing.
use Prim.Native.Nat.{ℕ, ◌≤◌}
use mathlib.Core.Path.{◌≡◌, refl, sym, ap, subst, ◌∙◌}
use mathlib.Core.Bool.{Bool, false}
use mathlib.Core.List.{List, [], ◌∷◌}
use Rattle.tables.specs.Limits.{most_places}
use Rattle.calls.specs.State.{State, StoredState, fresh, stored_state, Within}
use Rattle.calls.specs.Calls.{Done, after, answer, handled}
use Rattle.calls.specs.Demand2.{PlanRight}
use Rattle.calls.specs.Last.{current_after, current, kept_outcome, Lasts}
use Rattle.calls.specs.Need.{NeedRight, Needs}
use Rattle.calls.specs.Fillings.{Filling, broken, filling_by, Fillings}
use Rattle.calls.specs.Portions.{portion_number, after_portion}
use Rattle.calls.specs.Demand3.{Exchange, Event, on_line, on_portion, Link, returned, after_event, History, last, paper_from, Right, Demand3}
use Rattle.calls.proofs.State.{fresh-within}
use Rattle.calls.proofs.Keeps.{after-places, after-within}
use Rattle.calls.proofs.Plans.{plan-right}
use Rattle.calls.proofs.Answers.{called-stored}
use Rattle.calls.proofs.Work.{clash}
use Rattle.calls.proofs.Last.{Current, current-after, last-right}
use Rattle.calls.proofs.Need.{need-right}
use Rattle.calls.proofs.Portions.{portions-stored, portion-within}
use Rattle.calls.proofs.Fillings.{Trusted, trusted-line, trusted-portion, portion-right}

-- ---- one call, on a planner that holds a state within the limits
line-done : (s : State) → Within s → (x : Exchange) → Link (stored_state s) (on_line x) → x.done ≡ handled s x.call
line-done s h x y = y ∙ called-stored s h x.call

event-within : (s : State) → Within s → (x : Event) → Within (after_event s x)
event-within s h (on_line x) = after-within s h x.call
event-within s h (on_portion x) = portion-within s h x.call

event-state : (s : State) → Within s → (x : Event) → Link (stored_state s) x → returned x ≡ stored_state (after_event s x)
event-state s h (on_line x) y = ap (λ (d : Done). d.state) (line-done s h x y)
event-state s h (on_portion x) y = (portions-stored s h x.call x.done y).state

-- and the calls after it
rest : (s : State) → Within s → (x : Event) (xs : List Event) → History (stored_state s) (x ∷ xs) → History (stored_state (after_event s x)) xs
rest s h x xs y = subst (λ (p : StoredState). History p xs) (event-state s h x y.0) y.1

right-more : (s : State) → Within s → (x : Event) (xs : List Event) → Link (stored_state s) x → Right (after_event s x) xs → Right s (x ∷ xs)
right-more s h (on_line x) xs y r =
    let e : x.done.reply ≡ answer s x.call = ap (λ (d : Done). d.reply) (line-done s h x y) in
    (e, λ k. subst (PlanRight s.tables x.call) (sym e) (plan-right s x.call k h), r)
right-more s h (on_portion x) xs y r = r

-- ---- after any calls, from a state within the limits
pub history-right : (s : State) → Within s → (xs : List Event) → History (stored_state s) xs
    → (last (stored_state s) xs ≡ stored_state (paper_from s xs)) × Within (paper_from s xs) × Right s xs
history-right s h [] y = (refl, h, tt)
history-right s h (x ∷ xs) y =
    let ih = history-right (after_event s x) (event-within s h x) xs (rest s h x xs y) in
    (ap (λ (p : StoredState). last p xs) (event-state s h x y.0) ∙ ih.0, ih.1, right-more s h x xs y.0 ih.2)

-- and the outcome beside the tables, with every `last` among the calls
pub history-outcome : (b : Bool) (s : State) → Within s → Current b s → (xs : List Event) → History (stored_state s) xs
    → ((paper_from s xs).outcome ≡ kept_outcome (current b xs) (paper_from s xs).tables) × Lasts b s xs
history-outcome b s h k [] y = (k.outcome, tt)
history-outcome b s h k (on_line x ∷ xs) y =
    let c = x.call in
    let d = line-done s h x y.0 in
    let r : x.done.reply ≡ answer s c = ap (λ (d : Done). d.reply) d in
    let ih = history-outcome (current_after b x) (after s c) (after-within s h c) (current-after s h x r b k) xs (rest s h (on_line x) xs y) in
    (ih.0, (λ l. last-right s h x r l b k (ap (λ (d : Done). d.state) d), ih.1))
history-outcome b s h k (on_portion x ∷ xs) y =
    history-outcome b (after_portion s x.call) (portion-within s h x.call) (record { outcome = k.outcome; loads = k.loads }) xs (rest s h (on_portion x) xs y)

-- and every `need`
history-needs : (s : State) → Within s → (xs : List Event) → History (stored_state s) xs → Needs s xs
history-needs s h [] y = tt
history-needs s h (on_line x ∷ xs) y =
    let c = x.call in
    (λ v k. subst (NeedRight s.tables v (stored_state s) c) (sym (line-done s h x y.0)) (need-right s h v c k), history-needs (after s c) (after-within s h c) xs (rest s h (on_line x) xs y))
history-needs s h (on_portion x ∷ xs) y = history-needs (after_portion s x.call) (portion-within s h x.call) xs (rest s h (on_portion x) xs y)

-- and every portion
history-portions : (f : Filling) (s : State) → Within s → Trusted f s → (xs : List Event) → History (stored_state s) xs → Fillings f s xs
history-portions f s h k [] y = tt
history-portions f s h k (on_line x ∷ xs) y = history-portions f (after s x.call) (after-within s h x.call) (trusted-line f s x.call k) xs (rest s h (on_line x) xs y)
history-portions f s h k (on_portion x ∷ xs) y =
    let c = x.call in
    let d = portions-stored s h c x.done y.0 in
    (portion-right f s h k x d, history-portions (filling_by (portion_number s c) f s x) (after_portion s c) (portion-within s h c) (trusted-portion f s h k x d) xs (rest s h (on_portion x) xs y))

pub history-places : (s : State) (xs : List Event) → (paper_from s xs).tables.places ≡ s.tables.places
history-places s [] = refl
history-places s (on_line x ∷ xs) = history-places (after s x.call) xs ∙ after-places s x.call
history-places s (on_portion x ∷ xs) = history-places (after_portion s x.call) xs

-- for every limit of loads up to `most_places`, and every list of calls from a fresh planner
pub demand3 : (n : ℕ) → n ≤ most_places → (xs : List Event) → History (stored_state (fresh n)) xs → Demand3 n xs
demand3 n h xs y =
    let w = fresh-within n h in
    let r = history-right (fresh n) w xs y in
    let o = history-outcome false (fresh n) w (record { outcome = refl; loads = λ e. absurd (clash (sym e)) }) xs y in
    record {
      state = r.0;
      limits = r.1;
      plans = r.2;
      outcome = o.0;
      lasts = o.1;
      needs = history-needs (fresh n) w xs y;
      portions = history-portions broken (fresh n) w (λ l. tt) xs y;
    }
