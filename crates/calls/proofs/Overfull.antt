-- The save of more loads than a planner has places for meets refusal 6 at the line of the first load that has none. Assumes nothing.
use Prim.Native.Nat.{ℕ, zero, suc, ◌+◌, ◌≤◌, ◌<◌}
use mathlib.Core.Path.{◌≡◌, refl, sym, ap, subst, ◌∙◌}
use mathlib.Core.Bool.{true, false}
use mathlib.Core.List.{List, [], ◌∷◌, ◌++◌, map, append_assoc}
use native.Mathlib.Omega.{arith}
use borrow.Author.Tests.{le-leb}
use lib.ListN.{length, get_or, take, drop, length-take, take-append-drop}
use lib.Seq.{drop-cons}
use Rattle.lists.specs.Each as each
use Rattle.lists.specs.Each.{Each}
use Rattle.lists.specs.Tests.{every_from}
use Rattle.lists.proofs.Tests.{from-mid}
use Rattle.lists.proofs.Bools.{and_left, and_right}
use Rattle.lines.specs.declared.SaveForm.{SaveForm}
use Rattle.lines.specs.declared.Change.{Change}
use Rattle.lines.specs.declared.Change.TheVariants as to
use Rattle.lines.specs.Written.{written}
use Rattle.lines.specs.Saved.{load_change, book_changes, saved, save_text, loses_kinds}
use Rattle.lines.specs.Input.{lines}
use Rattle.lines.proofs.SaveLines.{save-lines}
use Rattle.tables.specs.declared.load.Load.{Load}
use Rattle.tables.specs.Refusals as no
use Rattle.tables.specs.Tables.{Tables, no_load}
use Rattle.tables.specs.Limits.{load_in, Limits}
use Rattle.tables.proofs.Parts.{Parts, limits-parts, limits-whole}
use Rattle.calls.specs.State.{State, StoredState, state_of, Kept}
use Rattle.calls.specs.Rows.{changing}
use Rattle.calls.specs.Causes.{lowest}
use Rattle.calls.specs.Calls.{Reply, after, answer}
use Rattle.calls.specs.Demand1.{bytes_needed}
use Rattle.calls.specs.Demand3.{Exchange, History, on_lines, Right}
use Rattle.calls.specs.Full.{number_at}
use Rattle.calls.specs.Saves.{Step, Takes, none, next, lines_of, AllFree}
use Rattle.calls.specs.Overfull.{saved_before, Overfull}
use Rattle.calls.proofs.State.{places, kept-within, kept-stored}
use Rattle.calls.proofs.Demand3.{history-right}
use Rattle.calls.proofs.Rebuilds.{loads-rebuilt}
use Rattle.calls.proofs.Saves.{Readable, readable, unlike, line-cause, line_after}

-- ---- lines that are accepted, and the number of the one after them
record Met (xs : List Exchange) (before number : ℕ) : Type 0 where
  pub accepted : (j : ℕ) → j < before → number_at xs j ≡ 0
  pub refused : number_at xs before ≡ number

module _ (f : SaveForm) (s : State) (x : Exchange) (xs : List Exchange) (c : Change) (cs : List Change) (b : Readable f c) (y : Right s (on_lines (x ∷ xs)))
    (l : lines_of (x ∷ xs) ≡ map (written f) (c ∷ cs)) (free : x.call.place + bytes_needed x.call.line ≤ length x.call.output) where
  on : x.call.line ≡ written f c
  on = cc

  number : x.done.reply.number ≡ lowest (changing s.tables c).causes
  unfolding answer
  number = ap (λ (r : Reply). r.number) y.0 ∙ line-cause s x.call c on b free

  met-here : {t : Tables} → s.tables ≡ t → Met (x ∷ xs) 0 (lowest (changing t c).causes)
  met-here e = record { accepted = λ j h. absurd (omega arith); refused = number ∙ ap (λ (t : Tables). lowest (changing t c).causes) e }

  met-more : {t u : Tables} → Step t c u → s.tables ≡ t → {m k : ℕ} → ((s : State) → s.tables ≡ u → Right s (on_lines xs) → lines_of xs ≡ map (written f) cs → Met xs m k) → Met (x ∷ xs) (suc m) k
  met-more step e {m} {k} ih =
      let passes : lowest (changing s.tables c).causes ≡ 0 = rw e step.accepted in
      let held = line_after s x.call c on b free passes ∙ ap (λ (t : Tables). (changing t c).after) e ∙ step.after in
      let r = ih (after s x.call) held y.2 (cc) in
      record { accepted = at (number ∙ passes) r.accepted; refused = r.refused }
    where
      at : x.done.reply.number ≡ 0 → ((j : ℕ) → j < m → number_at xs j ≡ 0) → (j : ℕ) → j < suc m → number_at (x ∷ xs) j ≡ 0
      at h r zero l = h
      at h r (suc j) l = r j (omega arith)

met : (f : SaveForm) {t u : Tables} {cs : List Change} → Takes t cs u → (c : Change) (ds : List Change) → Each (Readable f) (cs ++ (c ∷ ds))
    → (s : State) → s.tables ≡ t → (xs : List Exchange) → Right s (on_lines xs) → lines_of xs ≡ map (written f) (cs ++ (c ∷ ds)) → AllFree xs
    → Met xs (length cs) (lowest (changing u c).causes)
met f none c ds (each.more b bs) s e [] y l free = unlike (sym l)
met f none c ds (each.more b bs) s e (x ∷ xs) y l (each.more r rs) = met-here f s x xs c ds b y l r e
met f (next p q) c ds (each.more b bs) s e [] y l free = unlike (sym l)
met f (next {c = a} {cs = cs} p q) c ds (each.more b bs) s e (x ∷ xs) y l (each.more r rs) =
    met-more f s x xs a (cs ++ (c ∷ ds)) b y l r p e (λ s e y l. met f q c ds bs s e xs y l rs)

-- ---- the lines of a save, up to a load and from it on
mid_at : (g : Change → List ℕ) (cs : List Change) (c : Change) (ds : List Change) → get_or (map g (cs ++ (c ∷ ds))) (length cs) [] ≡ g c
mid_at g [] c ds = refl
mid_at g (x ∷ cs) c ds = mid_at g cs c ds

map-mid : {A B : Type 0} (g : A → B) (xs : List A) (y : A) (ys : List A) → map g (xs ++ (y ∷ ys)) ≡ map g xs ++ (g y ∷ map g ys)
map-mid g [] y ys = refl
map-mid g (x ∷ xs) y ys = ap (λ (r : List _). g x ∷ r) (map-mid g xs y ys)

first-in : (k : ℕ) (xs ys : List Load) → every_from load_in k (xs ++ ys) ≡ true → every_from load_in k xs ≡ true
unfolding every_from
first-in k [] ys h = refl
first-in k (x ∷ xs) ys h =
    rw (and_left (load_in k x) (every_from load_in (suc k) (xs ++ ys)) h) (first-in (suc k) xs ys (and_right (load_in k x) (every_from load_in (suc k) (xs ++ ys)) h))

module _ (t : Tables) (h : Limits t) (n : ℕ) (many : n < length t.loads) where
  abbrev load : Load
  load = get_or t.loads n no_load

  abbrev later : List Load
  later = drop (suc n) t.loads

  p : Parts t
  p = limits-parts t h

  parted : take n t.loads ++ (load ∷ later) ≡ t.loads
  parted = ap (λ (r : List Load). take n t.loads ++ r) (sym (drop-cons t.loads n no_load many)) ∙ take-append-drop n t.loads

  first-length : length (take n t.loads) ≡ n
  first-length = omega (arith, length-take n t.loads)

  -- the tables with the first n loads, and no place for more
  abbrev first : Tables
  first = record { book = t.book; loads = take n t.loads; budget = t.budget; places = n }

  first-limits : Limits first
  first-limits =
      limits-whole first
      (record {
        book = p.book;
        few = omega (arith, first-length);
        loads = first-in 1 (take n t.loads) (load ∷ later) (rw parted p.loads);
        budget = p.budget;
        places = omega (arith, p.few, p.places);
      })

  abbrev behind : List Change
  behind = map load_change later ++ (to.Budget t.budget ∷ [])

  saved-parted : saved t ≡ saved_before n t ++ (load_change load ∷ behind)
  unfolding saved
  saved-parted =
      let x = (to.Clear ∷ []) ++ book_changes t.book in
      let m = map load_change (take n t.loads) in
      let r = load_change load ∷ map load_change later in
      let b = to.Budget t.budget ∷ [] in
      let loads : map load_change t.loads ≡ m ++ r = ap (map load_change) (sym parted) ∙ map-mid load_change (take n t.loads) load later in
      ap (λ (ls : List Change). x ++ ls ++ b) loads ∙ append_assoc x (m ++ r) b ∙ ap (λ (ls : List Change). x ++ ls) (append_assoc m r b)
      ∙ sym (append_assoc x m (r ++ b))

  -- on the tables with the first n loads the next line is refused
  refused : lowest (changing (record { book = t.book; loads = take n t.loads; budget = 0; places = n }) (load_change load)).causes ≡ no.full
  unfolding changing lowest
  refused =
      let e : suc (length (take n t.loads)) ≡ length (take n t.loads) + 1 = omega arith in
      let fits : load_in (suc (length (take n t.loads))) load ≡ true = rw e (from-mid load_in 1 (take n t.loads) load later (rw parted p.loads)) in
      rw (fits, le-leb n (length (take n t.loads)) (omega (arith, first-length)))

-- for every limit n, and so for the 64 of paper 01
pub overfull : (f : SaveForm) (n : ℕ) (t : Tables) → Limits t → loses_kinds f t ≡ false → n < length t.loads → (p : StoredState) → Kept n p
    → (xs : List Exchange) → History p (on_lines xs) → lines_of xs ≡ lines (save_text f t) → AllFree xs → Overfull f n t xs
overfull f n t h e many p hp xs y l free =
    let s = state_of p in
    let r = history-right s (kept-within p hp) (on_lines xs) (subst (λ (x : StoredState). History x (on_lines xs)) (kept-stored p hp) y) in
    let cut : lines_of xs ≡ map (written f) (saved_before n t ++ (load_change (load t h n many) ∷ behind t h n many)) = l ∙ (save-lines f t h).cut ∙ ap (map (written f)) (saved-parted t h n many) in
    let able = subst (Each (Readable f)) (saved-parted t h n many) (readable f t h e) in
    let m = met f (loads-rebuilt (first t h n many) (first-limits t h n many) s.tables (places p.tables hp.tables)) (load_change (load t h n many)) (behind t h n many) able s refl xs r.2 cut free in
    record {
      accepted = m.accepted;
      line = ap (λ (ls : List (List ℕ)). get_or ls (length (saved_before n t)) []) cut ∙ mid_at (written f) (saved_before n t) (load_change (load t h n many)) (behind t h n many);
      full = m.refused ∙ refused t h n many;
    }
