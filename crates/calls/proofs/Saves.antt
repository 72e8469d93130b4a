-- What a save gives, and what its lines give back to any planner that keeps the limits. Assumes nothing.
use Prim.Native.Nat.{ℕ, zero, suc, ◌+◌, ◌≤◌}
use mathlib.Core.Path.{◌≡◌, refl, sym, ap, subst, ◌∙◌}
use mathlib.Core.Bool.{Bool, true, false}
use mathlib.Core.List.{List, [], ◌∷◌, map}
use mathlib.Core.Logic.{◌↔◌}
use native.Mathlib.Omega.{arith}
use borrow.Author.Tests.{le-ltb}
use lib.ListN.{length}
use Rattle.lists.specs.Each as each
use Rattle.lists.specs.Each.{Each}
use Rattle.lists.specs.Argmax.{guard}
use Rattle.lists.proofs.Each.{each_both}
use Rattle.lines.specs.declared.SaveForm.{SaveForm}
use Rattle.lines.specs.declared.Change.{Change}
use Rattle.lines.specs.declared.Command.TheVariants as line
use Rattle.lines.specs.Length.{most_bytes, too_long}
use Rattle.lines.specs.Grammar.{parse, line_command, told}
use Rattle.lines.specs.Written.{written}
use Rattle.lines.specs.Saved.{saved, save_text, loses_kinds}
use Rattle.lines.specs.Answers.{free_bytes, ok, refused}
use Rattle.lines.specs.Input.{lines}
use Rattle.lines.specs.ReadBack.{ReadBack}
use Rattle.lines.proofs.Sizes.{numbers-short}
use Rattle.lines.proofs.SaveText.{save-fits}
use Rattle.lines.proofs.SaveLines.{save-lines}
use Rattle.tables.specs.Refusals as no
use Rattle.tables.specs.Tables.{Tables}
use Rattle.tables.specs.Limits.{Limits}
use Rattle.tables.specs.Stored.{stored}
use Rattle.runs.specs.Outcome.{nothing}
use Rattle.calls.specs.State.{State, StoredState, stored_state, state_of, Within, Kept}
use Rattle.calls.specs.Rows.{◌if◌, changes, changing, row}
use Rattle.calls.specs.Causes.{lowest, refusal}
use Rattle.calls.specs.Effects.{state_by}
use Rattle.calls.specs.Printing.{text, zeroed, work_after}
use Rattle.calls.specs.Calls.{Call, Done, Reply, written_by, row_for, number_for, after, reply, answer, called}
use Rattle.calls.specs.Demand1.{bytes_needed}
use Rattle.calls.specs.Demand3.{Exchange, History, on_lines, last, paper_from, Right}
use Rattle.calls.specs.Saves.{SaveCall, SaveRight, Step, Takes, none, next, lines_of, AllFree, Accepted, Restored}
use Rattle.calls.proofs.State.{places, is-stored, state-stored, kept-within, kept-stored}
use Rattle.calls.proofs.Answers.{roomy, command-is, row_is, called-stored, answer_at}
use Rattle.calls.proofs.Refusals.{after-number, change-row, change-after}
use Rattle.calls.proofs.Printed.{written_is}
use Rattle.calls.proofs.ByCommand.{needed-range}
use Rattle.calls.proofs.Demand3.{history-right}
use Rattle.calls.proofs.Rebuilds.{rebuilds}

-- ---- a save
module _ (f : SaveForm) (s : State) (c : Call) (k : SaveCall f c) where
  save-row : row_for s c ≡ row s (line.Save f)
  save-row = row_is s c (line.Save f) k.line (numbers-short c.line (line.Save f) k.line refl)

  -- its one cause
  save-number : (b : Bool) → loses_kinds f s.tables ≡ b → number_for s c ≡ guard b no.kinds_in_use
  unfolding row lowest
  save-number b e =
      ap (refusal (length c.work) (length c.output) c.place) save-row
      ∙ roomy (length c.work) (length c.output) c.place (row s (line.Save f)) k.free ∙ go b e
    where
      go : (b : Bool) → loses_kinds f s.tables ≡ b → lowest ((no.kinds_in_use if loses_kinds f s.tables) ∷ []) ≡ guard b no.kinds_in_use
      go true e = rw e
      go false e = rw e

  save-after : after s c ≡ s
  unfolding row
  save-after = after-number s c ∙ ap (state_by s (number_for s c)) save-row ∙ shown-state (number_for s c)
    where
      shown-state : (n : ℕ) → state_by s n (row s (line.Save f)) ≡ s
      shown-state zero = refl
      shown-state (suc n) = refl

  save-answer : loses_kinds f s.tables ≡ false → answer s c ≡ reply c 0 (save_text f s.tables) c.work
  unfolding row text work_after zeroed
  save-answer e = answer_at s c 0 (row s (line.Save f)) (save-number false e) save-row

  save-refused : loses_kinds f s.tables ≡ true → answer s c ≡ reply c no.kinds_in_use (refused no.kinds_in_use) c.work
  unfolding row text work_after zeroed
  save-refused e = answer_at s c no.kinds_in_use (row s (line.Save f)) (save-number true e) save-row

  module _ (h : Within s) where
    save-called : {r : Reply} → answer s c ≡ r → called (stored_state s) c ≡ record { state = stored_state s; reply = r }
    save-called e = called-stored s h c ∙ (λ i. record { state = stored_state (save-after i); reply = e i })

    -- the bytes that it wrote
    pub save-writes : loses_kinds f s.tables ≡ false → written_by c (called (stored_state s) c).reply ≡ save_text f s.tables
    save-writes e =
        ap (λ (d : Done). written_by c d.reply) (save-called (save-answer e))
        ∙ written_is c.output (save_text f s.tables) c.place (omega (arith, k.free, save-fits f s.tables h.tables))

    -- 14 exactly where a kind would be lost
    fourteen : (b : Bool) → loses_kinds f s.tables ≡ b → ((called (stored_state s) c).reply.number ≡ no.kinds_in_use) ↔ (loses_kinds f s.tables ≡ true)
    fourteen true e = (λ n. e, λ l. ap (λ (d : Done). d.reply.number) (save-called (save-refused e)))
    fourteen false e = (
      λ n. absurd (omega (arith, n, ap (λ (d : Done). d.reply.number) (save-called (save-answer e)))),
      λ l. absurd (let z : ◌≡◌ {A = ℕ} 0 1 = cc in omega arith),
    )

    save-stored : SaveRight f (stored_state s) c (called (stored_state s) c)
    save-stored =
        let same : (state_of (stored_state s)).tables ≡ s.tables = ap (λ (x : State). x.tables) (state-stored s h) in
        record {
          saved = λ e. save-called (save-answer (rw same at e) ∙ ap (λ (t : Tables). reply c 0 (save_text f t) c.work) (sym same));
          refused = λ e. save-called (save-refused (rw same at e));
          fourteen = rw same (fourteen (loses_kinds f s.tables) refl);
        }

-- on every planner that keeps the limits
pub save-right : {n : ℕ} (f : SaveForm) (p : StoredState) → Kept n p → (c : Call) → SaveCall f c → SaveRight f p c (called p c)
save-right f p h c k = subst (λ (x : StoredState). SaveRight f x c (called x c)) (sym (kept-stored p h)) (save-stored f (state_of p) c k (kept-within p h))

-- ---- a call on the line of an accepted change, with the free bytes that it needs
-- the line is read back as the change itself
abbrev pub Readable : SaveForm → Change → Type 0
Readable f c = ReadBack f c × (told f c ≡ c)

module _ {f : SaveForm} (s : State) (x : Call) (c : Change) (on : x.line ≡ written f c) (b : Readable f c) (free : x.place + bytes_needed x.line ≤ length x.output) where
  room : x.place + free_bytes ≤ length x.output
  room = omega (arith, needed-range x.line)

  command : line_command x.line ≡ line.Change c
  command = command-is x.line (line.Change c) (ap parse on ∙ b.0.read ∙ ap line.Change b.1) (ap too_long on ∙ le-ltb most_bytes (length (written f c)) b.0.short)

  -- its number is that of its row
  pub line-cause : number_for s x ≡ lowest (changing s.tables c).causes
  line-cause =
      ap (refusal (length x.work) (length x.output) x.place) (change-row s x c command)
      ∙ roomy (length x.work) (length x.output) x.place (changes (changing s.tables c)) room

  -- where no cause applies
  module _ (passes : lowest (changing s.tables c).causes ≡ 0) where
    line-number : number_for s x ≡ 0
    line-number = line-cause ∙ passes

    pub line_after : (after s x).tables ≡ (changing s.tables c).after
    line_after = change-after s x c command line-number

    line-outcome : (after s x).outcome ≡ nothing
    line-outcome = rw (line-number, change-row s x c command)

    line-filled : (after s x).filled ≡ 0
    line-filled = rw (line-number, change-row s x c command)

    line-answer : answer s x ≡ reply x 0 ok x.work
    unfolding text work_after zeroed
    line-answer = answer_at s x 0 (changes (changing s.tables c)) line-number (change-row s x c command)

    line-accepted : (d : Done) → d.reply ≡ answer s x → Accepted (record { call = x; done = d })
    line-accepted d e =
        let r = e ∙ line-answer in
        record {
          number = ap (λ (y : Reply). y.number) r;
          prints = ap (written_by x) r ∙ written_is x.output ok x.place (omega (arith, room));
        }

-- ---- calls on the lines of changes that tables take
pub unlike : {A B : Type 0} {a : A} {l : List A} → ◌≡◌ {A = List A} (a ∷ l) [] → B
unlike e = absurd (let z : ◌≡◌ {A = ℕ} 0 1 = cc in omega arith)

-- every accepted change wipes what is kept beside the tables: the outcome and the count of filled cells
abbrev wiped : {A : Type 0} → (none : A) → List Change → A → A
wiped z [] o = o
wiped z (c ∷ cs) o = z

wiped-none : {A : Type 0} (z : A) (cs : List Change) → wiped z cs z ≡ z
wiped-none z [] = refl
wiped-none z (c ∷ cs) = refl

pub record Fed (s : State) (xs : List Exchange) (u : Tables) (cs : List Change) : Type 0 where
  pub accepted : Each Accepted xs
  pub tables : (paper_from s (on_lines xs)).tables ≡ u
  pub outcome : (paper_from s (on_lines xs)).outcome ≡ wiped nothing cs s.outcome
  pub filled : (paper_from s (on_lines xs)).filled ≡ wiped 0 cs s.filled

module _ (f : SaveForm) (v : Tables) (cs : List Change) {t u : Tables} {c : Change} (step : Step t c u) (b : Readable f c) (s : State) (holds : s.tables ≡ t) (x : Exchange) (xs : List Exchange) where
  fed-more : Right s (on_lines (x ∷ xs)) → lines_of (x ∷ xs) ≡ map (written f) (c ∷ cs) → x.call.place + bytes_needed x.call.line ≤ length x.call.output
      → ((s : State) → s.tables ≡ u → Right s (on_lines xs) → lines_of xs ≡ map (written f) cs → Fed s xs v cs)
      → Fed s (x ∷ xs) v (c ∷ cs)
  fed-more y l free ih =
      let k = x.call in
      let on : k.line ≡ written f c = cc in
      let passes : lowest (changing s.tables c).causes ≡ 0 = rw holds step.accepted in
      let held : (after s k).tables ≡ u = line_after s k c on b free passes ∙ ap (λ (t : Tables). (changing t c).after) holds ∙ step.after in
      let r = ih (after s k) held y.2 (cc) in
      record {
        accepted = each.more (line-accepted s k c on b free passes x.done y.0) r.accepted;
        tables = r.tables;
        outcome = r.outcome ∙ ap (wiped nothing cs) (line-outcome s k c on b free passes) ∙ wiped-none nothing cs;
        filled = r.filled ∙ ap (wiped 0 cs) (line-filled s k c on b free passes) ∙ wiped-none 0 cs;
      }

pub fed : (f : SaveForm) {t u : Tables} {cs : List Change} → Takes t cs u → Each (Readable f) cs → (s : State) → s.tables ≡ t
    → (xs : List Exchange) → Right s (on_lines xs) → lines_of xs ≡ map (written f) cs → AllFree xs → Fed s xs u cs
fed g none b s e [] y l f = record { accepted = each.none; tables = e; outcome = refl; filled = refl }
fed g none b s e (x ∷ xs) y l f = unlike l
fed g (next p q) b s e [] y l f = unlike (sym l)
fed g (next {v = v} {cs = cs} p q) (each.more b bs) s e (x ∷ xs) y l (each.more f fs) = fed-more g v cs p b s e x xs y l f (λ s e y l. fed g q bs s e xs y l fs)

-- a save has a line, and so it leaves nothing beside the tables
save-wipes : {A : Type 0} (z : A) (t : Tables) (o : A) → wiped z (saved t) o ≡ z
unfolding saved
save-wipes z t o = refl

-- the lines of tables t, fed to any planner within the limits: they are accepted, and it ends with a state that has these tables, and nothing
-- beside them
pub record Ends (p : StoredState) (xs : List Exchange) (t : Tables) : Type 0 where
  pub accepted : Each Accepted xs
  pub state : State
  pub within : Within state
  pub tables : state.tables ≡ t
  pub outcome : state.outcome ≡ nothing
  pub filled : state.filled ≡ 0
  pub last : last p (on_lines xs) ≡ stored_state state

-- the lines of a save that loses no kind
pub readable : (f : SaveForm) (t : Tables) → Limits t → loses_kinds f t ≡ false → Each (Readable f) (saved t)
readable f t h e = let l = save-lines f t h in each_both l.back (l.same e)

pub ends : {n : ℕ} (g : SaveForm) (t : Tables) → Limits t → loses_kinds g t ≡ false → t.places ≡ n → (p : StoredState) → Kept n p → (xs : List Exchange) → History p (on_lines xs)
    → lines_of xs ≡ lines (save_text g t) → AllFree xs → Ends p xs t
ends g t h e m p hp xs y l f =
    let s = state_of p in
    let r = history-right s (kept-within p hp) (on_lines xs) (subst (λ (x : StoredState). History x (on_lines xs)) (kept-stored p hp) y) in
    let d = fed g (rebuilds t h s.tables (places p.tables hp.tables ∙ sym m)) (readable g t h e) s refl xs r.2 (l ∙ (save-lines g t h).cut) f in
    record {
      accepted = d.accepted;
      state = paper_from s (on_lines xs);
      within = r.1;
      tables = d.tables;
      outcome = d.outcome ∙ save-wipes nothing t s.outcome;
      filled = d.filled ∙ save-wipes 0 t s.filled;
      last = ap (λ (x : StoredState). last x (on_lines xs)) (kept-stored p hp) ∙ r.0;
    }

-- ---- "Fed to a planner in any lawful state, with the free bytes they need, the lines give equal tables, and a further save gives equal bytes."
pub restores : {n : ℕ} (g : SaveForm) (q p : StoredState) → Kept n q → Kept n p → loses_kinds g (state_of q).tables ≡ false → (c : Call) → SaveCall g c
    → (xs : List Exchange) → History p (on_lines xs) → lines_of xs ≡ lines (written_by c (called q c).reply) → AllFree xs → Restored g q p xs (written_by c (called q c).reply)
restores g q p hq hp no-loss c k xs y l f =
    let t = (state_of q).tables in
    let wrote : written_by c (called q c).reply ≡ save_text g t =
    ap (λ (x : StoredState). written_by c (called x c).reply) (kept-stored q hq) ∙ save-writes g (state_of q) c k (kept-within q hq) no-loss in
    let e = ends g t (kept-within q hq).tables no-loss (places q.tables hq.tables) p hp xs y (l ∙ ap lines wrote) f in
    record {
      accepted = e.accepted;
      tables = ap (λ (x : StoredState). x.tables) e.last ∙ ap stored e.tables ∙ sym (is-stored q.tables hq.tables);
      again = λ d k.
          ap (λ (x : StoredState). written_by d (called x d).reply) e.last
          ∙ save-writes g e.state d k e.within (ap (loses_kinds g) e.tables ∙ no-loss) ∙ ap (save_text g) e.tables ∙ sym wrote;
    }
