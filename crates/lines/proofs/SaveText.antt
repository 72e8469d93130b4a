-- The text of a save: it fits the bytes that a save needs, and where no kind is lost its lines tell its changes. Assumes nothing.
use Prim.Native.Nat.{ℕ, zero, suc, ◌+◌, ◌*◌, ◌^◌, ◌≤◌, ◌<◌}
use mathlib.Core.Path.{◌≡◌, refl, sym, ap}
use mathlib.Core.Bool.{Bool, true, false}
use mathlib.Core.List.{List, [], ◌∷◌, ◌++◌, map}
use native.Mathlib.Nat.{suc-mul}
use native.Mathlib.Omega.{arith}
use lib.Dec.{eqb, lit≤}
use lib.ListN.{length, get_or, length-append}
use Rattle.lists.specs.Tests.{pick}
use Rattle.marks.specs.declared.Marks.{Marks}
use Rattle.marks.specs.Bits.{has_mark}
use Rattle.lines.specs.declared.SaveForm.{SaveForm}
use Rattle.lines.specs.declared.SaveForm.TheVariants as form
use Rattle.lines.specs.declared.Change.{Change}
use Rattle.lines.specs.declared.Change.TheVariants as to
use Rattle.lines.specs.Text.{comma, line_feed, decimal}
use Rattle.lines.specs.Grammar.{most_digits, kind_field, kind_told, told, line_of}
use Rattle.lines.specs.Written.{parted, line, Short, change_line}
use Rattle.lines.specs.Saved.{mark_change, mark_changes, rule_change, load_change, size_change, book_changes, saved, changes_text, save_text, loses_kinds, save_bytes}
use Rattle.lines.proofs.Decimal.{decimal-length}
use Rattle.tables.specs.declared.rule.Sort.{Sort}
use Rattle.tables.specs.declared.rule.Sort.TheVariants as sort
use Rattle.tables.specs.declared.rule.Transition.{Transition}
use Rattle.tables.specs.declared.load.Load as load
use Rattle.tables.specs.Tables.{Book, Tables, no_rule, no_load, size_for, rules_for}
use Rattle.tables.specs.Limits.{max_states, range_for, Limits}
use Rattle.tables.proofs.Plain.{no-kinds, rule-plain, loads-plain}
use Rattle.tables.specs.Lawful.{RuleFits, Lawful}
use Rattle.tables.proofs.Lawful.{lawful}
use Rattle.lists.specs.Each as each
use Rattle.lists.specs.Each.{Each}
use Rattle.lists.specs.Pairs.{Pairwise, none, both}
use Rattle.lists.proofs.Each.{each_append, each_map}

-- ---- what holds of each change of a book
module _ (P : Change → Type 0) where
  each-mark : (k : Sort) (m : Marks) (n : ℕ) → ((q : ℕ) → q ≤ n → P (mark_change k q)) → Each P (mark_changes k m n)
  unfolding mark_changes
  each-mark k m zero h = each.none
  each-mark k m (suc n) h = each_append (each-mark k m n (λ q l. h q (omega arith))) (go (has_mark m.0 (suc n)))
    where
      go : (b : Bool) → Each P (pick b (mark_change k (suc n) ∷ []) [])
      go true = each.more (h (suc n) (omega arith)) each.none
      go false = each.none

  each-size : (s g : ℕ) → P (to.Book s g) → Each P (size_change s g)
  unfolding size_change
  each-size s g h = go (eqb s 0)
    where
      go : (b : Bool) → Each P (pick b [] (to.Book s g ∷ []))
      go true = each.none
      go false = each.more h each.none

  pub each-book : (b : Book) → P (to.Book b.states b.stages) → ((k : Sort) (q : ℕ) → q ≤ size_for b k → P (mark_change k q))
      → ((k : Sort) (j : ℕ) → j < length (rules_for b k) → P (rule_change k (get_or (rules_for b k) j no_rule))) → Each P (book_changes b)
  unfolding book_changes
  each-book b size mark rule =
      let starts = each_append (each-size b.states b.stages size) (each-mark sort.Load b.starts b.states (mark sort.Load)) in
      let ends = each_append starts (each-mark sort.Row b.ends b.stages (mark sort.Row)) in
      each_append (each_append ends (each_map (rule_change sort.Load) no_rule b.load_rules (rule sort.Load))) (each_map (rule_change sort.Row) no_rule b.row_rules (rule sort.Row))

-- ---- how many digits the numbers of a change in a save have at most
abbrev pub digits_of : SaveForm → Change → List ℕ
digits_of f to.Clear = []
digits_of f (to.Book s g) = 1 ∷ 1 ∷ []
digits_of f (to.Start q) = 1 ∷ []
digits_of f (to.End g) = 1 ∷ []
digits_of f (to.Rule q m g k) = 1 ∷ 1 ∷ 1 ∷ kind_field f 1
digits_of f (to.Row g q h) = 1 ∷ 1 ∷ 1 ∷ []
digits_of f (to.Load p w v k) = 3 ∷ 3 ∷ 4 ∷ kind_field f 1
digits_of f (to.Power k w) = 3 ∷ 3 ∷ []
digits_of f (to.Worth k v) = 3 ∷ 4 ∷ []
digits_of f (to.Budget w) = 3 ∷ []
digits_of f (to.Drop k) = 3 ∷ []

pub record Digits (n d : ℕ) : Type 0 where
  pub below : n < 10 ^ d
  pub some : 1 ≤ d
  pub few : d ≤ 4
  pub short : 10 ^ d ≤ 10 ^ most_digits

unfoldable pub FewDigits : SaveForm → Change → Type 0
FewDigits f c = Pairwise Digits (line_of f c).values (digits_of f c)

one-digit : {n : ℕ} → n < 10 → Digits n 1
one-digit h = record { below = h; some = lit≤ tt; few = lit≤ tt; short = lit≤ tt }

three-digits : {n : ℕ} → n < 1000 → Digits n 3
three-digits h = record { below = h; some = lit≤ tt; few = lit≤ tt; short = lit≤ tt }

four-digits : {n : ℕ} → n < 10000 → Digits n 4
four-digits h = record { below = h; some = lit≤ tt; few = lit≤ tt; short = lit≤ tt }

kind-digit : (f : SaveForm) (k : ℕ) → k < 10 → Pairwise Digits (kind_field f k) (kind_field f 1)
kind-digit form.Kinds k h = both (one-digit h) none
kind-digit form.Plain k h = none

few-mark : (f : SaveForm) (k : Sort) (q : ℕ) → q < 10 → FewDigits f (mark_change k q)
unfolding FewDigits line_of
few-mark f sort.Load q h = both (one-digit h) none
few-mark f sort.Row q h = both (one-digit h) none

few-rule : (f : SaveForm) (k : Sort) (r : Transition) → r.from < 10 → r.label < 10 → r.to < 10 → r.kind < 10 → FewDigits f (rule_change k r)
unfolding FewDigits line_of
few-rule f sort.Load r a b c d = both (one-digit a) (both (one-digit b) (both (one-digit c) (kind-digit f r.kind d)))
few-rule f sort.Row r a b c d = both (one-digit a) (both (one-digit b) (both (one-digit c) none))

module _ (f : SaveForm) (t : Tables) (h : Limits t) where
  w : Lawful t
  w = lawful t h

  few-ranges : (k : Sort) {r : Transition} → RuleFits (range_for t.book k) r → FewDigits f (rule_change k r)
  few-ranges sort.Load {r} x =
      few-rule f sort.Load r (omega (arith, x.begins, w.states)) (omega (arith, x.gives)) (omega (arith, x.leads, w.stages)) (omega (arith, x.kind))
  few-ranges sort.Row {r} x =
      few-rule f sort.Row r (omega (arith, x.begins, w.stages)) (omega (arith, x.gives, w.states)) (omega (arith, x.leads, w.stages)) (omega (arith, x.kind))

  few-sizes : (k : Sort) → size_for t.book k ≤ max_states
  few-sizes sort.Load = w.states
  few-sizes sort.Row = w.stages

  few-book : Each (FewDigits f) (book_changes t.book)
  unfolding FewDigits line_of
  few-book =
      each-book (FewDigits f) t.book (both (one-digit (omega (arith, w.states))) (both (one-digit (omega (arith, w.stages))) none))
      (λ k q l. few-mark f k q (omega (arith, few-sizes k))) (λ k j l. few-ranges k (w.rule k j l))

  few-loads : Each (FewDigits f) (map load_change t.loads)
  unfolding FewDigits line_of
  few-loads =
      each_map load_change no_load t.loads (λ j l.
      let x = w.load j l in
      both (three-digits (omega (arith, x.parent, w.loads, w.places)))
      (both (three-digits (omega (arith, x.power)))
      (both (four-digits (omega (arith, x.worth))) (kind-digit f _ (omega (arith, x.kind))))))

  pub saved-few : Each (FewDigits f) (saved t)
  unfolding saved FewDigits line_of
  saved-few = each_append (each_append (each.more none few-book) few-loads) (each.more (both (three-digits (omega (arith, w.budget))) none) each.none)

-- ---- where no kind is lost, each line tells its change
Same : SaveForm → Change → Type 0
Same f c = told f c ≡ c

same-mark : (f : SaveForm) (k : Sort) (q : ℕ) → Same f (mark_change k q)
unfolding Same
same-mark f sort.Load q = refl
same-mark f sort.Row q = refl

same-rule : (f : SaveForm) (r : Transition) → kind_told f r.kind ≡ r.kind → Same f (rule_change sort.Load r)
unfolding Same
same-rule f r e = ap (to.Rule r.from r.label r.to) e

same_row : (f : SaveForm) (r : Transition) → Same f (rule_change sort.Row r)
unfolding Same
same_row f r = refl

same_load : (f : SaveForm) (l : load.Load) → kind_told f l.kind ≡ l.kind → Same f (load_change l)
unfolding Same
same_load f l e = ap (to.Load l.parent l.power l.worth) e

-- the kinds of tables that lose none
kept_rule : (f : SaveForm) (t : Tables) → loses_kinds f t ≡ false → (j : ℕ) → let k = (get_or t.book.load_rules j no_rule).kind in kind_told f k ≡ k
kept_rule form.Kinds t h j = refl
kept_rule form.Plain t h j = sym (rule-plain t.book.load_rules (no-kinds t h).0 j)

kept-load : (f : SaveForm) (t : Tables) → loses_kinds f t ≡ false → (j : ℕ) → let k = (get_or t.loads j no_load).kind in kind_told f k ≡ k
kept-load form.Kinds t h j = refl
kept-load form.Plain t h j = sym (loads-plain t.loads (no-kinds t h).1 j)

kept-sort : (f : SaveForm) (t : Tables) → loses_kinds f t ≡ false → (k : Sort) (j : ℕ) → Same f (rule_change k (get_or (rules_for t.book k) j no_rule))
kept-sort f t h sort.Load j = same-rule f (get_or t.book.load_rules j no_rule) (kept_rule f t h j)
kept-sort f t h sort.Row j = same_row f (get_or t.book.row_rules j no_rule)

pub saved-same : (f : SaveForm) (t : Tables) → loses_kinds f t ≡ false → Each (λ c. told f c ≡ c) (saved t)
unfolding saved Same
saved-same f t h =
    each_append (each_append (each.more refl
    (each-book (Same f) t.book refl (λ k q l. same-mark f k q) (λ k j l. kept-sort f t h k j)))
    (each_map load_change no_load t.loads (λ j l. same_load f _ (kept-load f t h j)))) (each.more refl each.none)

-- ---- how long a text is
-- with so many digits, and the comma before each number
unfoldable pub weight : List ℕ → ℕ
weight [] = 0
weight (d ∷ ds) = suc d + weight ds

pub line-length : {ns ds : List ℕ} (w : List ℕ) → Pairwise Digits ns ds → length (line w ns) ≤ length w + weight ds
unfolding parted weight
line-length w none = omega arith
line-length w (both {x = n} {y = d} {xs = ns} h p) =
    omega (arith, length-append w (comma ∷ line (decimal n) ns), line-length (decimal n) p, decimal-length d n h.some h.below)

pub weight-few : {ns ds : List ℕ} → Pairwise Digits ns ds → weight ds ≤ 5 * length ns
unfolding weight
weight-few none = omega arith
weight-few (both h p) = omega (arith, h.few, weight-few p)

pub digits-short : {ns ds : List ℕ} → Pairwise Digits ns ds → Short ns
digits-short none = each.none
digits-short (both {x = n} h p) = each.more {x = n} (omega (arith, h.below, h.short)) (digits-short p)

pub digits-five : {ns ds : List ℕ} → Pairwise Digits ns ds → Each (λ f. length f ≤ 5) (map decimal ns)
digits-five none = each.none
digits-five (both {x = n} {y = d} h p) = each.more {x = decimal n} (omega (arith, decimal-length d n h.some h.below, h.few)) (digits-five p)

module _ (f : SaveForm) where
  -- so many bytes at most, with the line feed
  most : Change → ℕ
  most c = length (line_of f c).word + weight (digits_of f c) + 1

  change-length : (c : Change) → FewDigits f c → length (change_line f c) ≤ most c
  unfolding most FewDigits
  change-length c h = omega (arith, length-append (line (line_of f c).word (line_of f c).values) (line_feed ∷ []), line-length (line_of f c).word h)

  most_of : List Change → ℕ
  most_of [] = 0
  most_of (c ∷ cs) = most c + most_of cs

  text-length : {cs : List Change} → Each (FewDigits f) cs → length (changes_text f cs) ≤ most_of cs
  unfolding changes_text most_of
  text-length each.none = lit≤ tt
  text-length (each.more {x = c} {xs = cs} h p) = omega (arith, length-append (change_line f c) (changes_text f cs), change-length c h, text-length p)

  most-append : (a b : List Change) → most_of (a ++ b) ≡ most_of a + most_of b
  unfolding most_of
  most-append [] b = omega arith
  most-append (c ∷ a) b = omega (arith, most-append a b)

  most-map : {A : Type 0} (h : A → Change) (k : ℕ) → ((x : A) → most (h x) ≤ k) → (xs : List A) → most_of (map h xs) ≤ length xs * k
  unfolding most_of
  most-map h k l [] = omega arith
  most-map h k l (x ∷ xs) = omega (arith, l x, most-map h k l xs, suc-mul (length xs) k)

  most-mark : (k : Sort) (q : ℕ) → most (mark_change k q) ≤ 8
  unfolding most line_of weight
  most-mark sort.Load q = lit≤ tt
  most-mark sort.Row q = lit≤ tt

  most-marks : (k : Sort) (m : Marks) (n : ℕ) → most_of (mark_changes k m n) ≤ 8 * n
  unfolding mark_changes most_of
  most-marks k m zero = lit≤ tt
  most-marks k m (suc n) = go (has_mark m.0 (suc n)) (most-marks k m n)
    where
      go : (b : Bool) → most_of (mark_changes k m n) ≤ 8 * n → most_of (mark_changes k m n ++ pick b (mark_change k (suc n) ∷ []) []) ≤ 8 * suc n
      go true ih = omega (arith, most-append (mark_changes k m n) (mark_change k (suc n) ∷ []), most-mark k (suc n))
      go false ih = omega (arith, most-append (mark_changes k m n) [])

  most-size : (s g : ℕ) → most_of (size_change s g) ≤ 9
  unfolding size_change most_of most line_of weight
  most-size s g = go (eqb s 0)
    where
      go : (b : Bool) → most_of (pick b [] (to.Book s g ∷ [])) ≤ 9
      go true = lit≤ tt
      go false = lit≤ tt

  most-ends : (b : ℕ) → most_of (to.Clear ∷ []) + most_of (to.Budget b ∷ []) ≤ 17
  unfolding most_of most line_of weight
  most-ends b = lit≤ tt

-- a kind and its comma
most-kind : (f : SaveForm) (k : ℕ) → weight (kind_field f k) ≤ suc k
unfolding weight
most-kind form.Kinds k = omega arith
most-kind form.Plain k = omega arith

most-rule : (f : SaveForm) (k : Sort) (r : Transition) → most f (rule_change k r) ≤ 13
unfolding most line_of weight
most-rule f sort.Load r = omega (arith, most-kind f 1)
most-rule f sort.Row r = lit≤ tt

most_load : (f : SaveForm) (l : load.Load) → most f (load_change l) ≤ 20
unfolding most line_of weight
most_load f l = omega (arith, most-kind f 1)

module _ (f : SaveForm) (t : Tables) (h : Limits t) where
  abbrev b : Book
  b = t.book

  saved-most : most_of f (saved t) ≤ save_bytes
  unfolding saved book_changes
  saved-most =
      let w = lawful t h in
      simp (most-append f)
      (omega (
        arith,
        most-ends f t.budget,
        most-size f b.states b.stages,
        most-marks f sort.Load b.starts b.states,
        w.states,
        most-marks f sort.Row b.ends b.stages,
        w.stages,
        most-map f (rule_change sort.Load) 13 (most-rule f sort.Load) b.load_rules,
        w.rules sort.Load,
        most-map f (rule_change sort.Row) 13 (most-rule f sort.Row) b.row_rules,
        w.rules sort.Row,
        most-map f load_change 20 (most_load f) t.loads,
        w.loads,
        w.places,
      ))

  -- "saves 4,096" of request Ten of paper 02
  pub save-fits : length (save_text f t) ≤ save_bytes
  save-fits = omega (arith, text-length f (saved-few f t h), saved-most)
