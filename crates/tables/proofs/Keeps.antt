-- Every change on paper keeps the limits, under the conditions that its row of "Causes and numbers" leaves. Assumes nothing.
use Prim.Native.Nat.{ℕ, zero, suc, ◌+◌, ◌-◌, ◌^◌, ◌≤◌, ◌<◌}
use mathlib.Core.Path.{◌≡◌, refl}
use mathlib.Core.Bool.{Bool, true, false, ◌&&◌}
use mathlib.Core.List.{List}
use native.Mathlib.Omega.{arith}
use borrow.Author.Tests.{leb-true, le-leb, lt-ltb, ltb-true, eqb-false}
use lib.Bits.{or_lt}
use lib.Pow.{pow_pos, pow-lt}
use lib.Dec.{eqb, leb}
use lib.ListN.{length, length-set}
use Rattle.lists.specs.Tests.{pick, some, every_from}
use Rattle.lists.proofs.Bools.{and_left, and_right, or-true, eqb_swap}
use Rattle.lists.proofs.Arrays.{length-snoc}
use Rattle.lists.proofs.Tests.{from-snoc, from-set, from-without}
use Rattle.lists.proofs.Places.{limited-none, limited-snoc}
use Rattle.marks.specs.Bits.{within, set_bit, with_mark}
use Rattle.marks.specs.Sets.{marked}
use Rattle.marks.specs.declared.Marks.{Marks}
use Rattle.tables.specs.declared.rule.Sort.TheVariants as sort
use Rattle.tables.specs.declared.load.Figure.{Figure}
use Rattle.tables.specs.declared.load.Figure.TheVariants as figure
use Rattle.tables.specs.Tables.{Sort, Transition, Load, Book, Tables, no_load, size_for, marks_for, rules_for, empty_book, fresh}
use Rattle.tables.specs.Limits.{between, max_states, book_size, size_in, marks_in, rule_in, rule_range, range_for, same_rule, max_rules, rules_in, parent_in, figure_in, kind_in, budget_in, load_in, most_places, Limits}
use Rattle.tables.specs.Changes.{with_book, with_loads, with_marks, with_rules, new_book, mark, add_rule, add_load, with_figure, set_figure, is_child, has_children, fallen, reparented, remaining, drop_load, set_budget}
use Rattle.tables.proofs.Parts.{BookParts, Parts, limits-parts, limits-whole}
use Rattle.tables.proofs.Lawful.{inside, load_inside}
use Rattle.tables.proofs.Removed.{fallen-value, same-parent, one_fewer}

-- ---- marks
set-fits : (n x q : ℕ) → x < 2 ^ n → 1 ≤ q → q ≤ n → with_mark max_states x q < 2 ^ n
unfolding with_mark
set-fits n x q h one most = go (within max_states q)
  where
    go : (w : Bool) → pick w (set_bit x (q - 1)) x < 2 ^ n
    go true = or_lt n x (2 ^ (q - 1)) h (pow-lt (omega arith))
    go false = h

marked-in : (n : ℕ) (m : Marks) (q : ℕ) → marks_in n m ≡ true → between 1 n q ≡ true → marks_in n (marked m q) ≡ true
marked-in n m q h b =
    let one = leb-true 1 q (and_left (leb 1 q) (leb q n) b) in
    let most = leb-true q n (and_right (leb 1 q) (leb q n) b) in
    lt-ltb _ (2 ^ n) (set-fits n m.0 q (ltb-true m.0 (2 ^ n) h) one most)

no-marks : (n : ℕ) → marks_in n (record { 0 = 0 }) ≡ true
no-marks n = lt-ltb 0 (2 ^ n) (pow_pos n)

-- ---- rules of both sorts
pub same-swap : (a b : Transition) → same_rule a b ≡ same_rule b a
unfolding same_rule
same-swap a b = rw (eqb_swap a.from b.from, eqb_swap a.label b.label, eqb_swap a.to b.to, eqb_swap a.kind b.kind)

-- ---- loads: the parts of the test of one
record LoadParts (k : ℕ) (l : Load) : Type 0 where
  parent : parent_in k l.parent ≡ true
  power : figure_in figure.Power l.power ≡ true
  worth : figure_in figure.Worth l.worth ≡ true
  kind : kind_in l.kind ≡ true

load-parts : (k : ℕ) (l : Load) → load_in k l ≡ true → LoadParts k l
unfolding load_in
load-parts k l h =
    let a = parent_in k l.parent in
    let b = figure_in figure.Power l.power in
    let c = figure_in figure.Worth l.worth in
    let three = and_left (a && b && c) (kind_in l.kind) h in
    let two = and_left (a && b) c three in
    record { parent = and_left a b two; power = and_right a b two; worth = and_right (a && b) c three; kind = and_right (a && b && c) (kind_in l.kind) h }

-- another figure in range
figure-in : (f : Figure) (x : ℕ) → figure_in f x ≡ true → (k : ℕ) (l : Load) → load_in k l ≡ true → load_in k (with_figure f l x) ≡ true
unfolding load_in
figure-in figure.Power w e k l h =
    let p = load-parts k l h in
    rw (p.parent, e, p.worth) p.kind
figure-in figure.Worth v e k l h =
    let p = load-parts k l h in
    rw (p.parent, p.power, e) p.kind

-- a load that comes after load k has left: before it, or behind it and none of its children
module _ (k : ℕ) (one : 1 ≤ k) where
  lower_in : (m : ℕ) (l : Load) → m < k → load_in m l ≡ true → load_in m (reparented k l) ≡ true
  lower_in m l b h = rw (same-parent k l (omega (arith, (load_inside m l h).parent))) h

  parent-in : (m p : ℕ) → k ≤ m → (p ≡ k → ⊥) → parent_in (suc m) p ≡ true → parent_in m (fallen k p) ≡ true
  parent-in zero p b other h = absurd (omega arith)
  parent-in (suc zero) p b other h = absurd (other (let i = inside 1 1 p h in omega arith))
  parent-in (suc (suc m)) p b other h =
      let i = inside 1 (suc (suc m)) p h in
      let v = fallen-value k p in
      rw (le-leb 1 (fallen k p) (omega arith)) (le-leb (fallen k p) (suc m) (omega (arith, other)))

  higher-in : (m : ℕ) (l : Load) → k ≤ m → is_child k l ≡ false → load_in (suc m) l ≡ true → load_in m (reparented k l) ≡ true
  unfolding load_in
  higher-in m l b other h =
      let p = load-parts (suc m) l h in
      rw (parent-in m l.parent b (eqb-false l.parent k other) p.parent, p.power, p.worth) p.kind

-- ---- a book with no rules and no marks
empty-parts : (s g : ℕ) → size_in s g ≡ true → BookParts (empty_book s g)
empty-parts s g h = record { size = h; marks = marks; rules = rules }
  where
    marks : (k : Sort) → marks_in (size_for (empty_book s g) k) (marks_for (empty_book s g) k) ≡ true
    marks sort.Load = no-marks s
    marks sort.Row = no-marks g

    rules : (k : Sort) → rules_in (range_for (empty_book s g) k) (rules_for (empty_book s g) k) ≡ true
    rules sort.Load = limited-none (rule_in (rule_range s g sort.Load)) same_rule max_rules
    rules sort.Row = limited-none (rule_in (rule_range s g sort.Row)) same_rule max_rules

-- ---- a book with other marks, or other rules, of one sort
marks-parts : (b : Book) → BookParts b → (k : Sort) (m : Marks) → marks_in (size_for b k) m ≡ true → BookParts (with_marks k b m)
marks-parts b p sort.Load m e =
    record { size = p.size; marks = elim [ sort.Load ↦ e | sort.Row ↦ p.marks sort.Row ]; rules = elim [ sort.Load ↦ p.rules sort.Load | sort.Row ↦ p.rules sort.Row ] }
marks-parts b p sort.Row m e =
    record { size = p.size; marks = elim [ sort.Load ↦ p.marks sort.Load | sort.Row ↦ e ]; rules = elim [ sort.Load ↦ p.rules sort.Load | sort.Row ↦ p.rules sort.Row ] }

rules-parts : (b : Book) → BookParts b → (k : Sort) (rs : List Transition) → rules_in (range_for b k) rs ≡ true → BookParts (with_rules k b rs)
rules-parts b p sort.Load rs e =
    record { size = p.size; marks = elim [ sort.Load ↦ p.marks sort.Load | sort.Row ↦ p.marks sort.Row ]; rules = elim [ sort.Load ↦ e | sort.Row ↦ p.rules sort.Row ] }
rules-parts b p sort.Row rs e =
    record { size = p.size; marks = elim [ sort.Load ↦ p.marks sort.Load | sort.Row ↦ p.marks sort.Row ]; rules = elim [ sort.Load ↦ p.rules sort.Load | sort.Row ↦ e ] }

pub fresh-limits : (n : ℕ) → n ≤ most_places → Limits (fresh n)
unfolding fresh every_from
fresh-limits n h = limits-whole (fresh n) (record { book = empty-parts 0 0 refl; few = omega arith; loads = refl; budget = refl; places = h })

-- ---- each change
module _ (t : Tables) (h : Limits t) where
  p : Parts t
  p = limits-parts t h

  book-keeps : (b : Book) → BookParts b → Limits (with_book t b)
  book-keeps b q = limits-whole (with_book t b) (record { book = q; few = p.few; loads = p.loads; budget = p.budget; places = p.places })

  loads-keep : (ls : List Load) → length ls ≤ t.places → every_from load_in 1 ls ≡ true → Limits (with_loads t ls)
  loads-keep ls few q = limits-whole (with_loads t ls) (record { book = p.book; few = few; loads = q; budget = p.budget; places = p.places })

  pub new-book-keeps : (s g : ℕ) → book_size s g ≡ true → Limits (new_book t s g)
  new-book-keeps s g e = book-keeps (empty_book s g) (empty-parts s g (rw e (or-true (eqb s 0 && eqb g 0))))

  pub mark-keeps : (k : Sort) (q : ℕ) → between 1 (size_for t.book k) q ≡ true → Limits (mark t k q)
  mark-keeps k q e = book-keeps _ (marks-parts t.book p.book k _ (marked-in (size_for t.book k) (marks_for t.book k) q (p.book.marks k) e))

  pub add-rule-keeps : (k : Sort) (r : Transition) → rule_in (range_for t.book k) r ≡ true
      → length (rules_for t.book k) < max_rules → some (same_rule r) (rules_for t.book k) ≡ false → Limits (add_rule t k r)
  add-rule-keeps k r fit few new =
      let rs = rules_for t.book k in
      book-keeps _ (rules-parts t.book p.book k _ (limited-snoc (rule_in (range_for t.book k)) same_rule max_rules same-swap rs r (p.book.rules k) fit few new))

  pub add-load-keeps : (l : Load) → load_in (suc (length t.loads)) l ≡ true → length t.loads < t.places → Limits (add_load t l)
  add-load-keeps l fit few =
      let n : suc (length t.loads) ≡ length t.loads + 1 = omega arith in
      loads-keep _ (rw length-snoc (omega arith)) (from-snoc load_in 1 t.loads l p.loads (rw n at fit))

  pub set-figure-keeps : (f : Figure) (k x : ℕ) → figure_in f x ≡ true → Limits (set_figure t f k x)
  set-figure-keeps f k x e =
      let set : Load → Load = λ l. with_figure f l x in
      loads-keep _ (rw length-set p.few) (from-set no_load load_in set (figure-in f x e) 1 (k - 1) t.loads p.loads)

  pub drop-load-keeps : (k : ℕ) → 1 ≤ k → k ≤ length t.loads → has_children k t.loads ≡ false → Limits (drop_load t k)
  unfolding remaining has_children
  drop-load-keeps zero one most none = absurd (omega arith)
  drop-load-keeps (suc j) one most none =
      let place : suc j - 1 ≡ j = omega arith in
      let fewer = one_fewer (suc j) t.loads one most in
      loads-keep _ (omega (arith, p.few))
      (rw place (from-without load_in (is_child (suc j)) (reparented (suc j)) (suc j) (higher-in (suc j) one) (lower_in (suc j) one) 1 j t.loads (omega arith) p.loads none))

  pub set-budget-keeps : (w : ℕ) → budget_in w ≡ true → Limits (set_budget t w)
  set-budget-keeps w e = limits-whole (set_budget t w) (record { book = p.book; few = p.few; loads = p.loads; budget = e; places = p.places })
