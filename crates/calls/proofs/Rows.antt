-- Every row of the table is right: its causes ascend, its change keeps the limits and the places, and its text fits the bytes that it needs.
-- Assumes nothing.
use Prim.Native.Nat.{ℕ, suc, ◌≤◌, ◌<◌}
use mathlib.Core.Path.{◌≡◌, refl, sym, ◌∙◌}
use mathlib.Core.Bool.{Bool, true, false, ◌&&◌}
use mathlib.Core.List.{List, [], ◌∷◌}
use mathlib.Core.Logic.{◌⊎◌, inl, inr}
use native.Mathlib.Omega.{arith}
use borrow.Author.Tests.{leb-false, eqb-false}
use lib.Dec.{lit<, lit≤, eqb, leb, ltb}
use lib.ListN.{length}
use Rattle.lists.specs.Tests.{some}
use Rattle.lists.proofs.Bools.{and_right}
use Rattle.marks.specs.Sets.{mark_in}
use Rattle.lines.specs.declared.Change.{Change}
use Rattle.lines.specs.declared.Change.TheVariants as to
use Rattle.lines.specs.declared.Command.{Command}
use Rattle.lines.specs.declared.Command.TheVariants as line
use Rattle.lines.specs.Grammar.{line_command}
use Rattle.lines.specs.Saved.{saved}
use Rattle.lines.specs.Answers.{free_bytes, run_bytes, AllRanged, number_of, text_of}
use Rattle.lines.proofs.Answers.{need-fits}
use Rattle.lines.proofs.SaveText.{save-fits}
use Rattle.tables.specs.declared.rule.Sort.{Sort}
use Rattle.tables.specs.declared.rule.Sort.TheVariants as sort
use Rattle.tables.specs.declared.load.Figure.{Figure}
use Rattle.tables.specs.declared.load.Figure.TheVariants as figure
use Rattle.tables.specs.declared.rule.Transition.{Transition}
use Rattle.tables.specs.Refusals as no
use Rattle.tables.specs.Tables as on-paper
use Rattle.tables.specs.Tables.{Tables, size_for, rules_for}
use Rattle.tables.specs.Limits.{between, book_size, same_rule, max_rules, load_in, figure_in, budget_in, Limits}
use Rattle.tables.specs.Changes.{has_children}
use Rattle.tables.proofs.Lawful.{inside, lawful}
use Rattle.tables.proofs.Keeps.{fresh-limits, new-book-keeps, mark-keeps, add-rule-keeps, add-load-keeps, set-figure-keeps, drop-load-keeps, set-budget-keeps}
use Rattle.meaning.specs.Best.{best_check}
use Rattle.tables.specs.declared.entry.Entry.{Entry}
use Rattle.meaning.specs.Claims.{EachLoad}
use Rattle.meaning.specs.Cells.{cells_of}
use Rattle.meaning.specs.Choice.{plan_entries}
use Rattle.meaning.specs.Need.{none_fits, least_budget}
use Rattle.meaning.proofs.Claims.{claims}
use Rattle.meaning.proofs.Need.{least-most}
use Rattle.runs.specs.Outcome.{Outcome, nothing, no_set, planned, is_nothing, is_no_set, entries_of, range_of, outcome_in}
use Rattle.runs.proofs.Stored.{lines-in}
use Rattle.calls.specs.State.{State, Within}
use Rattle.calls.specs.Rows.{◌if◌, Changing, Shown, showing_plan, shown_text, Row, changes, shows, works, rule, load, is_load, not_allowed, marking, rule_causes, adding, setting, changing, refuses, row, line_row, bytes_of, most_bytes, causes_of, effect_of, shown_of}
use Rattle.calls.specs.Causes.{lowest}
use Rattle.calls.proofs.Numbers.{passed, passed-not, Ascending}
use Rattle.calls.proofs.Answers.{positive}
use Rattle.calls.proofs.Work.{clash}
use Rattle.calls.proofs.Fits.{lines-ranged, lines_fit, plan-in, check-ranged, checked-fits}

-- ---- changes
pub record Sound (t : Tables) (x : Changing) : Type 0 where
  pub ordered : Ascending 2 x.causes
  pub keeps : Limits t → lowest x.causes ≡ 0 → Limits x.after
  pub places : x.after.places ≡ t.places

is-sound : {t : Tables} {x : Changing} → Ascending 2 x.causes → x.after.places ≡ t.places → (Limits t → lowest x.causes ≡ 0 → Limits x.after) → Sound t x
is-sound o e k = record { ordered = o; keeps = k; places = e }

-- what a rule of either sort that is accepted has passed
new-rule : (b : Bool) (r : Transition) (rs : List Transition) → lowest (rule_causes b r rs) ≡ 0 → (b ≡ true) × (length rs < max_rules) × (some (same_rule r) rs ≡ false)
new-rule b r rs e =
    let p = passed-not no.out_of_range b _ (lit< tt) e in
    let q = passed no.full (leb max_rules (length rs)) _ (lit< tt) p.1 in
    (p.0, leb-false max_rules (length rs) q.0, (passed no.same_rule (some (same_rule r) rs) [] (lit< tt) q.1).0)

mark-sound : (t : Tables) (k : Sort) (q : ℕ) → Sound t (marking t k q)
mark-sound t k q = is-sound (lit≤ tt, lit≤ tt) refl (λ h e. mark-keeps t h k q (passed-not no.out_of_range (between 1 (size_for t.book k) q) [] (lit< tt) e).0)

add-sound : (t : Tables) (k : Sort) (r : Transition) → Sound t (adding t k r)
add-sound t k r =
    is-sound (lit≤ tt, (lit≤ tt, (lit≤ tt, lit≤ tt))) refl (λ h e. let p = new-rule _ r (rules_for t.book k) e in add-rule-keeps t h k r p.0 p.1 p.2)

set-sound : (t : Tables) (f : Figure) (k x : ℕ) → Sound t (setting t f k x)
set-sound t f k x =
    is-sound (lit≤ tt, lit≤ tt) refl (λ h e. set-figure-keeps t h f k x (and_right (is_load t k) (figure_in f x) (passed-not no.out_of_range (is_load t k && figure_in f x) [] (lit< tt) e).0))

-- what a load that may leave has passed
pub may-leave : (t : Tables) (k : ℕ) → lowest (changing t (to.Drop k)).causes ≡ 0 → ((1 ≤ k) × (k ≤ length t.loads)) × (has_children k t.loads ≡ false)
unfolding changing
may-leave t k e =
    let p = passed-not no.out_of_range (is_load t k) _ (lit< tt) e in
    (inside 1 (length t.loads) k p.0, (passed no.has_children (has_children k t.loads) [] (lit< tt) p.1).0)

sound : (t : Tables) (c : Change) → Sound t (changing t c)
unfolding changing on-paper.fresh
sound t to.Clear = is-sound (lit≤ tt) refl (λ h e. fresh-limits t.places (lawful t h).places)
sound t (to.Book s g) = is-sound (lit≤ tt, lit≤ tt) refl (λ h e. new-book-keeps t h s g (passed-not no.out_of_range (book_size s g) [] (lit< tt) e).0)
sound t (to.Start q) = mark-sound t sort.Load q
sound t (to.End g) = mark-sound t sort.Row g
sound t (to.Rule q m g k) = add-sound t sort.Load (rule q m g k)
sound t (to.Row g q h) = add-sound t sort.Row (rule g q h 0)
sound t (to.Load p w v k) =
    is-sound (lit≤ tt, (lit≤ tt, lit≤ tt)) refl (λ h e.
    let a = passed-not no.out_of_range (load_in (suc (length t.loads)) (load p w v k)) _ (lit< tt) e in
    let b = passed no.full (leb t.places (length t.loads)) [] (lit< tt) a.1 in
    add-load-keeps t h (load p w v k) a.0 (leb-false t.places (length t.loads) b.0))
sound t (to.Power k w) = set-sound t figure.Power k w
sound t (to.Worth k v) = set-sound t figure.Worth k v
sound t (to.Budget w) = is-sound (lit≤ tt, lit≤ tt) refl (λ h e. set-budget-keeps t h w (passed-not no.out_of_range (budget_in w) [] (lit< tt) e).0)
sound t (to.Drop k) =
    is-sound (lit≤ tt, (lit≤ tt, lit≤ tt)) refl (λ h e. let p = may-leave t k e in drop-load-keeps t h k p.0.0 p.0.1 p.1)

-- no change changes the limit of loads
pub change-places : (t : Tables) (c : Change) → (changing t c).after.places ≡ t.places
change-places t c = (sound t c).places

-- ---- rows
-- the entries of a run, one for each load
pub record OneEach (t : Tables) (es : List Entry) : Type 0 where
  pub loads : EachLoad t es
  pub ranged : AllRanged es

-- an answer has no load lines, or its entries are those of a run; and it writes no changes, or those of a save
pub record Listing (t : Tables) (x : Shown) : Type 0 where
  pub entries : ((es : List Entry) (cs : List Change) → text_of x.answer es cs ≡ text_of x.answer x.entries cs) ⊎ OneEach t x.entries
  pub changes : ((cs : List Change) → text_of x.answer x.entries cs ≡ shown_text x) ⊎ (x.changes ≡ saved t)

-- what a row shows where no cause applies
pub record Showing (t : Tables) (bytes : ℕ) (x : Shown) : Type 0 where
  pub fits : length (shown_text x) ≤ bytes
  pub lists : Listing t x

-- what a row stores is in range
abbrev Finds : Tables → Row → Type 0
Finds t (changes x) = Unit {0}
Finds t (shows b cs x) = Unit {0}
Finds t (works k b m before after x) = k ≡ true → outcome_in (range_of t) (planned x.entries) ≡ true

pub record Right (s : State) (cells : ℕ) (r : Row) : Type 0 where
  pub ordered : Ascending 2 (causes_of cells r)
  pub room : free_bytes ≤ bytes_of r
  pub most : bytes_of r ≤ most_bytes
  pub accepts : number_of (shown_of r).answer ≡ 0
  pub keeps : Within s → lowest (causes_of cells r) ≡ 0 → Limits (effect_of s.tables r)
  pub places : (effect_of s.tables r).places ≡ s.tables.places
  pub shown : Within s → lowest (causes_of cells r) ≡ 0 → Showing s.tables (bytes_of r) (shown_of r)
  pub finds : Within s → lowest (causes_of cells r) ≡ 0 → Finds s.tables r

no_lines : {t : Tables} (x : Shown) → ((es : List Entry) (cs : List Change) → text_of x.answer es cs ≡ shown_text x) → Listing t x
no_lines x e = record { entries = inl (λ es cs. e es cs ∙ sym (e x.entries cs)); changes = inl (e x.entries) }

run-lines : {t : Tables} (x : Shown) → OneEach t x.entries → ((cs : List Change) → text_of x.answer x.entries cs ≡ shown_text x) → Listing t x
run-lines x o e = record { entries = inr o; changes = inl e }

-- the lines of a plan that is in range
plan-showing : (t : Tables) → Limits t → (es : List Entry) → outcome_in (range_of t) (planned es) ≡ true → Showing t run_bytes (showing_plan t es)
plan-showing t h es e =
    let l = lines-in (range_of t) es e in
    record {
      fits = lines_fit t h es l;
      lists = run-lines _ (record { loads = record { all = l.all; each = l.each }; ranged = lines-ranged t h es l }) (λ cs. refl);
    }

-- the latest outcome, where it is a plan
last-showing : (t : Tables) → Limits t → (o : Outcome) → outcome_in (range_of t) o ≡ true
    → lowest ((no.none_fits if is_no_set o) ∷ (no.no_plan if is_nothing o) ∷ []) ≡ 0 → Showing t run_bytes (showing_plan t (entries_of o))
unfolding lowest
last-showing t h nothing e p = absurd (omega arith)
last-showing t h no_set e p = absurd (omega arith)
last-showing t h (planned es) e p = plan-showing t h es e

refuses-right : (s : State) (cells n : ℕ) → no.unusable < n → n ≤ no.greatest → Right s cells (refuses n)
refuses-right s cells n a b = record {
  ordered = (a, b);
  room = lit≤ tt;
  most = lit≤ tt;
  accepts = refl;
  keeps = λ h e. h.tables;
  places = refl;
  shown = λ h e. record { fits = lit≤ tt; lists = no_lines _ (λ es cs. refl) };
  finds = λ h e. tt;
}

right : (s : State) (n : ℕ) (c : Command) → Right s n (row s c)
unfolding row none_fits not_allowed
right s n (line.Change c) =
    let x = sound s.tables c in
    record {
      ordered = x.ordered;
      room = lit≤ tt;
      most = lit≤ tt;
      accepts = refl;
      keeps = λ h. x.keeps h.tables;
      places = x.places;
      shown = λ h e. record { fits = lit≤ tt; lists = no_lines _ (λ es cs. refl) };
      finds = λ h e. tt;
    }
right s n line.Plan =
    let t = s.tables in
    let in-range : Within s → lowest (causes_of n (row s line.Plan)) ≡ 0 → outcome_in (range_of t) (planned (plan_entries t)) ≡ true = λ h e.
    plan-in t h.tables (passed no.none_fits (none_fits t) [] (lit< tt) (passed no.too_few_cells (ltb n (cells_of t)) _ (lit< tt) (passed no.no_loads (eqb (length t.loads) 0) _ (lit< tt) e).1).1).0 in
    record {
      ordered = (lit≤ tt, (lit≤ tt, (lit≤ tt, lit≤ tt)));
      room = lit≤ tt;
      most = lit≤ tt;
      accepts = refl;
      keeps = λ h e. h.tables;
      places = refl;
      shown = λ h e. plan-showing t h.tables (plan_entries t) (in-range h e);
      finds = λ h e k. in-range h e;
    }
right s n (line.Check σ k) =
    let t = s.tables in
    record {
      ordered = (lit≤ tt, (lit≤ tt, (lit≤ tt, lit≤ tt)));
      room = lit≤ tt;
      most = lit≤ tt;
      accepts = refl;
      keeps = λ h e. h.tables;
      places = refl;
      shown = λ h e.
          let some = (passed no.not_allowed (not_allowed t (mark_in σ)) [] (lit< tt) (passed-not no.out_of_range (eqb k (length t.loads)) _ (lit< tt) (passed no.no_loads (eqb (length t.loads) 0) _ (lit< tt) e).1).1).0 in
          let p = (claims t h.tables).checked (mark_in σ) (positive (eqb-false (best_check t (mark_in σ)) 0 some)) in
          record { fits = checked-fits t h.tables (mark_in σ); lists = run-lines _ (record { loads = p.loads; ranged = check-ranged t h.tables (mark_in σ) }) (λ cs. refl) };
      finds = λ h e. tt;
    }
right s n (line.Save f) = record {
  ordered = (lit≤ tt, lit≤ tt);
  room = lit≤ tt;
  most = lit≤ tt;
  accepts = refl;
  keeps = λ h e. h.tables;
  places = refl;
  shown = λ h e. record { fits = save-fits f s.tables h.tables; lists = record { entries = inl (λ es cs. refl); changes = inr refl } };
  finds = λ h e. tt;
}
right s n line.Last = record {
  ordered = (lit≤ tt, (lit≤ tt, lit≤ tt));
  room = lit≤ tt;
  most = lit≤ tt;
  accepts = refl;
  keeps = λ h e. h.tables;
  places = refl;
  shown = λ h e. last-showing s.tables h.tables s.outcome h.outcome e;
  finds = λ h e. tt;
}
right s n (line.Need v) =
    let t = s.tables in
    record {
      ordered = (lit≤ tt, (lit≤ tt, (lit≤ tt, (lit≤ tt, (lit≤ tt, lit≤ tt)))));
      room = lit≤ tt;
      most = lit≤ tt;
      accepts = refl;
      keeps = λ h e. h.tables;
      places = refl;
      shown = λ h e. record { fits = need-fits (least_budget t v) (omega (arith, least-most t v, (lawful t h.tables).budget)); lists = no_lines _ (λ es cs. refl) };
      finds = λ h e k. absurd (clash (sym k));
    }
right s n line.Broken = refuses-right s n no.broken (lit≤ tt) (lit≤ tt)
right s n line.TooLong = refuses-right s n no.too_long (lit≤ tt) (lit≤ tt)

pub line-right : (s : State) (n : ℕ) (l : List ℕ) → Right s n (line_row s l)
unfolding line_row
line-right s n l = right s n (line_command l)
