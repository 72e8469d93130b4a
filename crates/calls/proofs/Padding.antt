-- Request One: calls on lines that differ only in leading zeros get the same treatment, one by one, in lists, and through the line program.
-- Assumes nothing.
use Prim.Native.Nat.{ℕ}
use mathlib.Core.Path.{◌≡◌, refl, sym, ap, ap₂, ◌∙◌}
use mathlib.Core.List.{List, ◌∷◌, ◌++◌}
use Rattle.lists.specs.Pairs.{Pairwise, none, both}
use Rattle.lines.specs.Padding.{SameLine}
use Rattle.lines.specs.Grammar.{line_command}
use Rattle.lines.specs.Input.{lines}
use Rattle.lines.proofs.Padding.{same-command, same-long}
use Rattle.calls.specs.State.{State, StoredState}
use Rattle.calls.specs.Rows.{line_row}
use Rattle.calls.specs.Calls.{Call, Done, written_by, called}
use Rattle.calls.specs.Demand3.{Exchange, History, on_lines, given, last}
use Rattle.calls.specs.Padding.{SameCall, SameCalls, SameTreatment}
use Rattle.calls.specs.Program.{Left, left_by, call_on, done_on, exchanges, at_start, printed_by, session_with}
use Rattle.calls.proofs.ByRow.{with_line, row-call}

same_row : (s : State) {l m : List ℕ} → SameLine l m → line_row s l ≡ line_row s m
unfolding line_row line_command
same_row s q = rw (same-long q, same-command q)

-- one call: number, count, planner, output and work, on every planner
pub same-called : (p : StoredState) (c d : Call) → SameCall c d → called p c ≡ called p d
same-called p c d q = ap (called p) e ∙ row-call p d c.line (λ s. same_row s q.line)
  where
    e : c ≡ with_line d c.line
    e = λ i. record { line = c.line; output = q.output i; place = q.place i; work = q.work i }

-- a list of calls
same-history : {p q : StoredState} {xs ys : List Exchange} → p ≡ q → SameCalls xs ys → History p (on_lines xs) → History q (on_lines ys) → (given xs ≡ given ys) × (last p (on_lines xs) ≡ last q (on_lines ys))
same-history e none a b = (refl, e)
same-history {p} e (both {x = x} {y = y} h hs) a b =
    let d : x.done ≡ y.done = a.0 ∙ same-called p x.call y.call h ∙ ap (λ (r : StoredState). called r y.call) e ∙ sym b.0 in
    let ih = same-history (ap (λ (r : Done). r.state) d) hs a.1 b.1 in
    (ap₂ ◌∷◌ d ih.0, ih.1)

pub same-treatment : (p : StoredState) (xs ys : List Exchange) → SameCalls xs ys → History p (on_lines xs) → History p (on_lines ys) → SameTreatment p xs ys
same-treatment p xs ys h a b = let r = same-history refl h a b in record { replies = r.0; planner = r.1 }

-- the line program: what it prints for inputs that differ only so, line by line
same-printed : (x : Left) {ls ms : List (List ℕ)} → Pairwise SameLine ls ms → printed_by (exchanges x ls) ≡ printed_by (exchanges x ms)
unfolding exchanges printed_by
same-printed x none = refl
same-printed x (both {x = l} {y = m} {xs = ls} h hs) =
    let same : SameCall (call_on x l) (call_on x m) = record { line = h; output = refl; place = refl; work = refl } in
    ap (λ (d : Done). written_by (call_on x m) d.reply ++ printed_by (exchanges (left_by d) ls)) (same-called x.state (call_on x l) (call_on x m) same)
    ∙ ap (λ (t : List ℕ). written_by (call_on x m) (done_on x m).reply ++ t) (same-printed (left_by (done_on x m)) hs)

pub same-session : (cells : ℕ) (s t : List ℕ) → Pairwise SameLine (lines s) (lines t) → printed_by (session_with cells s) ≡ printed_by (session_with cells t)
unfolding session_with
same-session n s t h = same-printed (at_start n) h
