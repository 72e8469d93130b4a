-- A save that is fed back through the line program, after any input. Assumes nothing.
use Prim.Native.Nat.{ℕ, ◌+◌, ◌≤◌}
use mathlib.Core.Path.{◌≡◌, refl, sym, ap, ap₂, subst, ◌∙◌}
use mathlib.Core.Bool.{Bool, true, false}
use mathlib.Core.List.{List, [], ◌∷◌, ◌++◌, flatten, append_assoc, append-nil}
use native.Mathlib.Omega.{arith}
use lib.Dec.{eqb, lit≤}
use lib.ListN.{length, replicate, length-replicate, length-map}
use lib.Seq.{length-sets}
use Rattle.lists.specs.Tests.{pick, every}
use Rattle.lists.specs.Each as each
use Rattle.lists.specs.Each.{Each}
use Rattle.lines.specs.declared.SaveForm.{SaveForm}
use Rattle.lines.specs.declared.SaveForm.TheVariants as form
use Rattle.lines.specs.declared.Command.TheVariants as line
use Rattle.lines.specs.Text.{line_feed, same}
use Rattle.lines.specs.Grammar.{fields, parse, find_form}
use Rattle.lines.specs.Written.{written}
use Rattle.lines.specs.Saved.{saved, save_text, loses_kinds, save_bytes}
use Rattle.lines.specs.Answers.{ok}
use Rattle.lines.specs.Input.{on_line, lines}
use Rattle.lines.proofs.Fields.{Cons, cons}
use Rattle.lines.proofs.SaveLines.{lines-before, save-lines}
use Rattle.tables.specs.Tables as on-paper
use Rattle.tables.specs.Tables.{Tables}
use Rattle.tables.specs.Limits.{max_loads, Limits}
use Rattle.tables.specs.Stored.{stored}
use Rattle.calls.specs.State.{State, StoredState, fresh, stored_state, state_of, keeps, Within}
use Rattle.calls.specs.Printing.{text}
use Rattle.calls.specs.Calls.{Call, written_by, row_for, number_for, answer, called_if, called}
use Rattle.calls.specs.Demand1.{bytes_needed}
use Rattle.calls.specs.Demand3.{Exchange, Event, History, on_lines, last, paper_from, Right}
use Rattle.calls.specs.Program.{Left, left_by, call_on, done_on, exchanges, left_after, at_start, printed_by, session_with}
use Rattle.calls.specs.Saves.{SaveCall, lines_of, AllFree, Accepted, Whole, empty, ended, save_word, save_line, FedBack}
use Rattle.calls.proofs.State.{fresh-within}
use Rattle.calls.proofs.ByCommand.{needed-range}
use Rattle.calls.proofs.Demand3.{history-right, history-places}
use Rattle.calls.proofs.Rebuilds.{rebuilds}
use Rattle.calls.proofs.Saves.{Fed, save-writes, fed, readable}
use Rattle.calls.proofs.Program.{exchanges-history, left-append, left-last}

-- ---- lines after whole lines
first-line : (b : ℕ) (s : List ℕ) → Cons (lines (b ∷ s))
unfolding lines
first-line b s = go (eqb b line_feed) (lines s)
  where
    go : (t : Bool) (ls : List (List ℕ)) → Cons (pick t ([] ∷ ls) (on_line b ls))
    go true ls = cons [] ls
    go false [] = cons (b ∷ []) []
    go false (l ∷ ls) = cons (b ∷ l) ls

begun-line : (s r : List ℕ) → Cons (lines (s ++ (line_feed ∷ r)))
begun-line [] r = first-line line_feed r
begun-line (b ∷ s) r = first-line b (s ++ (line_feed ∷ r))

lines-ended : (s r : List ℕ) → lines (s ++ (line_feed ∷ r)) ≡ lines (s ++ (line_feed ∷ [])) ++ lines r
unfolding lines
lines-ended [] r = refl
lines-ended (b ∷ s) r = go (eqb b line_feed) (lines (s ++ (line_feed ∷ []))) (begun-line s []) (lines-ended s r)
  where
    go : (t : Bool) (ls : List (List ℕ)) → Cons ls → lines (s ++ (line_feed ∷ r)) ≡ ls ++ lines r
        → pick t ([] ∷ lines (s ++ (line_feed ∷ r))) (on_line b (lines (s ++ (line_feed ∷ r)))) ≡ pick t ([] ∷ ls) (on_line b ls) ++ lines r
    go true ls (cons k ks) e = ap (λ (ms : List (List ℕ)). [] ∷ ms) e
    go false ls (cons k ks) e = ap (on_line b) e

lines-whole : {s : List ℕ} → Whole s → (r : List ℕ) → lines (s ++ r) ≡ lines s ++ lines r
unfolding lines
lines-whole empty r = refl
lines-whole (ended s) r = ap lines (append_assoc s (line_feed ∷ []) r) ∙ lines-ended s r

-- ---- calls after calls
exchanges-append : (x : Left) (a b : List (List ℕ)) → exchanges x (a ++ b) ≡ exchanges x a ++ exchanges (left_after x a) b
unfolding exchanges left_after
exchanges-append x [] b = refl
exchanges-append x (l ∷ a) b = ap (λ (xs : List Exchange). record { call = call_on x l; done = done_on x l } ∷ xs) (exchanges-append (left_by (done_on x l)) a b)

printed-append : (a b : List Exchange) → printed_by (a ++ b) ≡ printed_by a ++ printed_by b
unfolding printed_by
printed-append [] b = refl
printed-append (x ∷ a) b =
    ap (λ (t : List ℕ). written_by x.call x.done.reply ++ t) (printed-append a b) ∙ sym (append_assoc (written_by x.call x.done.reply) (printed_by a) (printed_by b))

exchanges-lines : (x : Left) (ls : List (List ℕ)) → lines_of (exchanges x ls) ≡ ls
unfolding exchanges
exchanges-lines x [] = refl
exchanges-lines x (l ∷ ls) = ap (λ (ms : List (List ℕ)). l ∷ ms) (exchanges-lines (left_by (done_on x l)) ls)

accepted-printed : {xs : List Exchange} → Each Accepted xs → printed_by xs ≡ flatten (replicate (length xs) ok)
unfolding printed_by flatten
accepted-printed each.none = refl
accepted-printed (each.more a p) = ap₂ ◌++◌ a.prints (accepted-printed p)

-- ---- the output keeps its length, so that every line has the bytes that it needs
output-length : (p : StoredState) (c : Call) → length (called p c).reply.output ≡ length c.output
unfolding called answer
output-length p c = go (keeps p)
  where
    go : (b : Bool) → length (called_if b p c).reply.output ≡ length c.output
    go true = length-sets c.output c.place (text (number_for (state_of p) c) (row_for (state_of p) c))
    go false = refl

left-length : (x : Left) (ls : List (List ℕ)) → length (left_after x ls).output ≡ length x.output
unfolding left_after
left-length x [] = refl
left-length x (l ∷ ls) = left-length (left_by (done_on x l)) ls ∙ output-length x.state (call_on x l)

exchanges-free : (x : Left) (ls : List (List ℕ)) → save_bytes ≤ length x.output → AllFree (exchanges x ls)
unfolding exchanges
exchanges-free x [] h = each.none
exchanges-free x (l ∷ ls) h =
    let free : 0 + bytes_needed l ≤ length x.output = omega (arith, needed-range l) in
    each.more free (exchanges-free (left_by (done_on x l)) ls (omega (arith, output-length x.state (call_on x l))))

-- ---- the last line of all
save-parses : (f : SaveForm) → parse (save_word f) ≡ line.Save f
unfolding parse fields find_form same every
save-parses form.Kinds = refl
save-parses form.Plain = refl

save-cut : (f : SaveForm) → lines (save_line f) ≡ save_word f ∷ []
unfolding lines
save-cut form.Kinds = refl
save-cut form.Plain = refl

one-save : (f : SaveForm) (x : Left) → printed_by (exchanges x (lines (save_line f))) ≡ written_by (call_on x (save_word f)) (done_on x (save_word f)).reply
unfolding exchanges printed_by
one-save f x = ap (λ (ls : List (List ℕ)). printed_by (exchanges x ls)) (save-cut f) ∙ append-nil (written_by (call_on x (save_word f)) (done_on x (save_word f)).reply)

-- ---- the lines of a save, given to what the calls before left
module _ (f : SaveForm) (t : Tables) (h : Limits t) (no-loss : loses_kinds f t ≡ false) (x : Left) (room : save_bytes ≤ length x.output) (s : State) (within : Within s) (holds : x.state ≡ stored_state s)
    (as_many : s.tables.places ≡ t.places) where
  abbrev back : List (List ℕ)
  back = lines (save_text f t)

  abbrev fed_back : List Exchange
  fed_back = exchanges x back

  abbrev fed_events : List Event
  fed_events = on_lines fed_back

  past : (last (stored_state s) fed_events ≡ stored_state (paper_from s fed_events)) × Within (paper_from s fed_events) × Right s fed_events
  past = history-right s within fed_events (subst (λ (p : StoredState). History p fed_events) holds (exchanges-history x back))

  taken : Fed s fed_back t (saved t)
  taken = fed f (rebuilds t h s.tables as_many) (readable f t h no-loss) s refl fed_back past.2 (exchanges-lines x back ∙ (save-lines f t h).cut) (exchanges-free x back room)

  abbrev reached : State
  reached = paper_from s fed_events

  ends : (left_after x back).state ≡ stored_state reached
  ends = left-last x back ∙ ap (λ (p : StoredState). last p fed_events) holds ∙ past.0

  left-tables : (left_after x back).state.tables ≡ stored t
  left-tables = ap (λ (p : StoredState). p.tables) ends ∙ ap stored taken.tables

  back-printed : printed_by fed_back ≡ flatten (replicate (length (saved t)) ok)
  back-printed = accepted-printed taken.accepted ∙ ap (λ (n : ℕ). flatten (replicate n ok)) count
    where
      count : length fed_back ≡ length (saved t)
      count = sym (length-map fed_back (λ (x : Exchange). x.call.line)) ∙ ap length (exchanges-lines x back ∙ (save-lines f t h).cut) ∙ length-map (saved t) (written f)

  again : let y = left_after x back in written_by (call_on y (save_word f)) (done_on y (save_word f)).reply ≡ save_text f t
  again =
      let y = left_after x back in
      let c = call_on y (save_word f) in
      let k : SaveCall f c = record { line = save-parses f; free = omega (arith, room, left-length x back) } in
      ap (λ (p : StoredState). written_by c (called p c).reply) ends ∙ save-writes f reached c k past.1 (ap (loses_kinds f) taken.tables ∙ no-loss) ∙ ap (save_text f) taken.tables

-- ---- after any input of whole lines
module _ (f : SaveForm) (cells : ℕ) {s : List ℕ} (whole : Whole s) (t : Tables) (h : Limits t) (no-loss : loses_kinds f t ≡ false) (as_many : t.places ≡ max_loads) where
  abbrev first : List Exchange
  first = exchanges (at_start cells) (lines s)

  abbrev begun : List Event
  begun = on_lines first

  abbrev x : Left
  x = left_after (at_start cells) (lines s)

  before : (last (stored_state (fresh max_loads)) begun ≡ stored_state (paper_from (fresh max_loads) begun)) × Within (paper_from (fresh max_loads) begun) × Right (fresh max_loads) begun
  before = history-right (fresh max_loads) (fresh-within max_loads (lit≤ tt)) begun (exchanges-history (at_start cells) (lines s))

  held : x.state ≡ stored_state (paper_from (fresh max_loads) begun)
  held = left-last (at_start cells) (lines s) ∙ before.0

  room : save_bytes ≤ length x.output
  room = omega (arith, left-length (at_start cells) (lines s), length-replicate {A = ℕ} save_bytes 0)

  places : (paper_from (fresh max_loads) begun).tables.places ≡ t.places
  unfolding on-paper.fresh
  places = history-places (fresh max_loads) begun ∙ sym as_many

  tables : (last (stored_state (fresh max_loads)) (on_lines (session_with cells (s ++ save_text f t)))).tables ≡ stored t
  unfolding session_with
  tables =
      ap (λ (ls : List (List ℕ)). (last (stored_state (fresh max_loads)) (on_lines (exchanges (at_start cells) ls))).tables) (lines-whole whole (save_text f t))
      ∙ ap (λ (p : StoredState). p.tables) (sym (left-last (at_start cells) (lines s ++ lines (save_text f t))) ∙ ap (λ (y : Left). y.state) (left-append (at_start cells) (lines s) (lines (save_text f t))))
      ∙ left-tables f t h no-loss x room (paper_from (fresh max_loads) begun) before.1 held places

  cut : lines (s ++ save_text f t ++ save_line f) ≡ lines s ++ (lines (save_text f t) ++ lines (save_line f))
  cut =
      ap lines (append_assoc s (save_text f t) (save_line f)) ∙ lines-whole whole (save_text f t ++ save_line f)
      ∙ ap (λ (ls : List (List ℕ)). lines s ++ ls) (lines-before f (saved t) (save_line f) ∙ ap (λ (ls : List (List ℕ)). ls ++ lines (save_line f)) (sym (save-lines f t h).cut))

  after-save : printed_by (exchanges x (lines (save_text f t) ++ lines (save_line f))) ≡ flatten (replicate (length (saved t)) ok) ++ save_text f t
  after-save =
      let y = left_after x (lines (save_text f t)) in
      let s = paper_from (fresh max_loads) begun in
      ap printed_by (exchanges-append x (lines (save_text f t)) (lines (save_line f)))
      ∙ printed-append (exchanges x (lines (save_text f t))) (exchanges y (lines (save_line f)))
      ∙ ap₂ ◌++◌ (back-printed f t h no-loss x room s before.1 held places) (one-save f y ∙ again f t h no-loss x room s before.1 held places)

  printed : printed_by (session_with cells (s ++ save_text f t ++ save_line f)) ≡ printed_by (session_with cells s) ++ flatten (replicate (length (saved t)) ok) ++ save_text f t
  unfolding session_with
  printed =
      let rest = lines (save_text f t) ++ lines (save_line f) in
      ap (λ (ls : List (List ℕ)). printed_by (exchanges (at_start cells) ls)) cut
      ∙ ap printed_by (exchanges-append (at_start cells) (lines s) rest) ∙ printed-append first (exchanges x rest)
      ∙ ap (λ (r : List ℕ). printed_by first ++ r) after-save ∙ sym (append_assoc (printed_by first) (flatten (replicate (length (saved t)) ok)) (save_text f t))

  pub fed-back : FedBack f cells s t
  fed-back = record { tables = tables; printed = printed }
