-- The changes of a save rebuild its tables, from any tables with as many places for loads. Assumes nothing.
use Prim.Native.Nat.{ℕ, suc, ◌+◌, ◌^◌, ◌≤◌, ◌<◌}
use mathlib.Core.Path.{◌≡◌, refl, subst}
use mathlib.Core.Bool.{Bool, true, false, ◌&&◌, ◌||◌, not}
use mathlib.Core.List.{List, [], ◌∷◌, ◌++◌, map}
use mathlib.Core.Logic.{◌⊎◌, inl, inr}
use native.Mathlib.Omega.{arith}
use borrow.Author.Tests.{ltb-true, lt-leb, eqb-true, ne_eqb}
use lib.Dec.{eqb, leb}
use lib.ListN.{length, length-append}
use Rattle.lists.specs.Tests.{every_from}
use Rattle.lists.proofs.Bools.{and_left, and_right}
use Rattle.lists.proofs.Tests.{every-mid, from-mid, distinct-mid}
use Rattle.lists.proofs.Places.{limited-parts}
use Rattle.marks.specs.declared.Marks.{Marks}
use Rattle.marks.specs.Sets.{marked}
use Rattle.lines.specs.declared.Change.TheVariants as to
use Rattle.lines.specs.Saved.{mark_change, mark_changes, rule_change, load_change, size_change, book_changes, saved}
use Rattle.tables.specs.declared.rule.RuleRange.{RuleRange}
use Rattle.tables.specs.declared.rule.Sort.{Sort}
use Rattle.tables.specs.declared.rule.Sort.TheVariants as sort
use Rattle.tables.specs.declared.rule.Transition.{Transition}
use Rattle.tables.specs.declared.load.Load.{Load}
use Rattle.tables.specs.Refusals as no
use Rattle.tables.specs.Tables.{Book, Tables, size_for, empty_book, fresh}
use Rattle.tables.specs.Limits.{between, max_states, book_size, size_in, marks_in, rule_in, range_for, same_rule, max_rules, rules_in, load_in, budget_in, Limits}
use Rattle.tables.specs.Changes.{with_book, with_loads, with_marks, with_rules, new_book}
use Rattle.tables.specs.Lawful.{Lawful}
use Rattle.tables.proofs.Lawful.{lawful, size-inside, rule-inside}
use Rattle.tables.proofs.Parts.{Parts, limits-parts}
use Rattle.tables.proofs.Keeps.{same-swap}
use Rattle.calls.specs.Rows.{◌if◌, rule, rule_causes, changing}
use Rattle.calls.specs.Causes.{lowest}
use Rattle.calls.specs.Saves.{Step, Takes, none, Rebuilt}
use Rattle.calls.proofs.Steps.{one, takes-append, for-each, marks, for-marks}

-- ---- one change of each sort
passes : (b : Bool) → b ≡ true → lowest ((no.out_of_range if not b) ∷ []) ≡ 0
unfolding lowest
passes b e = rw e

rule-passes : (m : RuleRange) (rs : List Transition) (r : Transition) (ss : List Transition) → rules_in m (rs ++ (r ∷ ss)) ≡ true → lowest (rule_causes (rule_in m r) r rs) ≡ 0
unfolding lowest
rule-passes m rs r ss h =
    let p = limited-parts (rule_in m) same_rule max_rules (rs ++ (r ∷ ss)) h in
    rw (
      every-mid (rule_in m) rs r ss p.inside,
      lt-leb max_rules (length rs) (omega (arith, p.few, length-append rs (r ∷ ss))),
      distinct-mid same_rule same-swap rs r ss p.once,
    )

-- a row rule has kind 0
no_kind : (m : RuleRange) (rs : List Transition) (r : Transition) (ss : List Transition) → rules_in m (rs ++ (r ∷ ss)) ≡ true → m.kind ≡ 0
    → rule r.from r.label r.to 0 ≡ r
no_kind m rs r ss h e =
    let p = limited-parts (rule_in m) same_rule max_rules (rs ++ (r ∷ ss)) h in
    let f = rule-inside m r (every-mid (rule_in m) rs r ss p.inside) in
    let k : 0 ≡ r.kind = omega (arith, f.kind, e) in
    λ i. rule r.from r.label r.to (k i)

pub load-accepted : (n : ℕ) (ls : List Load) (l : Load) → load_in (suc (length ls)) l ≡ true → length ls < n
    → lowest ((no.out_of_range if not (load_in (suc (length ls)) l)) ∷ (no.full if leb n (length ls)) ∷ []) ≡ 0
unfolding lowest
load-accepted n ls l fits few = rw (fits, lt-leb n (length ls) few)

load-passes : (n : ℕ) (ls : List Load) (l : Load) (ms : List Load) → length (ls ++ (l ∷ ms)) ≤ n → every_from load_in 1 (ls ++ (l ∷ ms)) ≡ true
    → lowest ((no.out_of_range if not (load_in (suc (length ls)) l)) ∷ (no.full if leb n (length ls)) ∷ []) ≡ 0
load-passes n ls l ms few h =
    let e : suc (length ls) ≡ length ls + 1 = omega arith in
    load-accepted n ls l (rw e (from-mid load_in 1 ls l ms h)) (omega (arith, few, length-append ls (l ∷ ms)))

-- a mark and a rule of either sort
module _ (t : Tables) where
  mark-step : (k : Sort) (m : Marks) (q : ℕ) → between 1 (size_for t.book k) q ≡ true
      → Step (with_book t (with_marks k t.book m)) (mark_change k q) (with_book t (with_marks k t.book (marked m q)))
  unfolding changing
  mark-step sort.Load m q e = record { accepted = passes (between 1 t.book.states q) e; after = refl }
  mark-step sort.Row m q e = record { accepted = passes (between 1 t.book.stages q) e; after = refl }

  rule-step : (k : Sort) (rs : List Transition) (r : Transition) (ss : List Transition) → rules_in (range_for t.book k) (rs ++ (r ∷ ss)) ≡ true
      → Step (with_book t (with_rules k t.book rs)) (rule_change k r) (with_book t (with_rules k t.book (rs ++ (r ∷ []))))
  unfolding changing
  rule-step sort.Load rs r ss h = record { accepted = rule-passes (range_for t.book sort.Load) rs r ss h; after = refl }
  rule-step sort.Row rs r ss h =
      subst (λ (x : Transition). Step (with_book t (with_rules sort.Row t.book rs)) (rule_change sort.Row r) (with_book t (with_rules sort.Row t.book (rs ++ (x ∷ []))))) (no_kind (range_for t.book sort.Row) rs r ss h refl)
      (record { accepted = rw (no_kind (range_for t.book sort.Row) rs r ss h refl) (rule-passes (range_for t.book sort.Row) rs r ss h); after = refl })

  -- all marks, and all rules, of a sort
  marks-taken : (k : Sort) (m : Marks) → size_for t.book k ≤ max_states → marks_in (size_for t.book k) m ≡ true
      → Takes (with_book t (with_marks k t.book (marks 0))) (mark_changes k m (size_for t.book k)) (with_book t (with_marks k t.book m))
  marks-taken k m few h =
      for-marks k (λ m. with_book t (with_marks k t.book m)) (size_for t.book k) few (mark-step k) m (ltb-true m.0 (2 ^ size_for t.book k) h)

  rules-taken : (k : Sort) (rs : List Transition) → rules_in (range_for t.book k) rs ≡ true
      → Takes (with_book t (with_rules k t.book [])) (map (rule_change k) rs) (with_book t (with_rules k t.book rs))
  rules-taken k rs h =
      for-each (rule_change k) (λ rs. with_book t (with_rules k t.book rs)) rs (λ xs y ys e. rule-step k xs y ys (rw e h))

  loads-taken : (ls : List Load) → length ls ≤ t.places → every_from load_in 1 ls ≡ true → Takes (with_loads t []) (map load_change ls) (with_loads t ls)
  unfolding changing
  loads-taken ls few h =
      for-each load_change (with_loads t) ls (λ xs y ys e. record { accepted = load-passes t.places xs y ys (rw e few) (rw e h); after = refl })

-- the size of a book
sizes : (s g : ℕ) → size_in s g ≡ true → ((s ≡ 0) × (g ≡ 0)) ⊎ (book_size s g ≡ true)
sizes s g = go (eqb s 0 && eqb g 0) refl
  where
    go : (z : Bool) → eqb s 0 && eqb g 0 ≡ z → z || book_size s g ≡ true → ((s ≡ 0) × (g ≡ 0)) ⊎ (book_size s g ≡ true)
    go true e h = inl (eqb-true s 0 (and_left (eqb s 0) (eqb g 0) e), eqb-true g 0 (and_right (eqb s 0) (eqb g 0) e))
    go false e h = inr h

size-taken : (n s g : ℕ) → size_in s g ≡ true → Takes (fresh n) (size_change s g) (new_book (fresh n) s g)
unfolding size_change changing fresh
size-taken n s g h = go (sizes s g h)
  where
    go : ((s ≡ 0) × (g ≡ 0)) ⊎ (book_size s g ≡ true) → Takes (fresh n) (size_change s g) (new_book (fresh n) s g)
    go (inl z) = rw (z.0, z.1) none
    go (inr e) = rw (ne_eqb s 0 (λ z. absurd (omega (arith, size-inside s g e)))) (one (record { accepted = passes (book_size s g) e; after = refl }))

clear-taken : (u : Tables) → Takes u (to.Clear ∷ []) (fresh u.places)
unfolding changing lowest
clear-taken u = one (record { accepted = refl; after = refl })

-- ---- the parts of a save
module _ (t : Tables) (h : Limits t) where
  p : Parts t
  p = limits-parts t h

  w : Lawful t
  w = lawful t h

  abbrev b : Book
  b = t.book

  -- tables with so much of t
  abbrev begun : Book → List Load → Tables
  begun c ls = record { book = c; loads = ls; budget = 0; places = t.places }

  abbrev started : Book
  started = with_marks sort.Load (empty_book b.states b.stages) b.starts

  abbrev ended : Book
  ended = with_marks sort.Row started b.ends

  abbrev ruled : Book
  ruled = with_rules sort.Load ended b.load_rules

  book-taken : Takes (fresh t.places) (book_changes b) (begun b [])
  unfolding book_changes fresh
  book-taken =
      takes-append (takes-append (takes-append (takes-append (size-taken t.places b.states b.stages p.book.size)
      (marks-taken (begun (empty_book b.states b.stages) []) sort.Load b.starts w.states (p.book.marks sort.Load)))
      (marks-taken (begun started []) sort.Row b.ends w.stages (p.book.marks sort.Row)))
      (rules-taken (begun ended []) sort.Load b.load_rules (p.book.rules sort.Load)))
      (rules-taken (begun ruled []) sort.Row b.row_rules (p.book.rules sort.Row))

  budget-taken : Takes (begun b t.loads) (to.Budget t.budget ∷ []) t
  unfolding changing
  budget-taken = one (record { accepted = passes (budget_in t.budget) p.budget; after = refl })

  -- all but the budget
  pub loads-rebuilt : (u : Tables) → u.places ≡ t.places → Takes u ((to.Clear ∷ []) ++ book_changes b ++ map load_change t.loads) (begun b t.loads)
  loads-rebuilt u e =
      takes-append (takes-append (subst (λ (n : ℕ). Takes u (to.Clear ∷ []) (fresh n)) e (clear-taken u)) book-taken)
      (loads-taken (begun b []) t.loads p.few p.loads)

  pub rebuilds : Rebuilt t
  unfolding saved
  rebuilds u e = takes-append (loads-rebuilt u e) budget-taken
