-- Each operation on tables that keep the limits is its change on paper, with its number. Assumes nothing.
use Prim.Native.Nat.{ℕ, zero, suc, ◌-◌, ◌≤◌, ◌<◌}
use mathlib.Core.Path.{◌≡◌, refl, ap, ◌∙◌}
use mathlib.Core.Bool.{Bool, true, false}
use mathlib.Core.List.{List, [], ◌∷◌, ◌++◌}
use native.Mathlib.Omega.{arith}
use borrow.Author.Tests.{leb-true, leb-false}
use lib.Dec.{leb}
use lib.ListN.{length, get_or, set, length-set}
use Rattle.std.specs.Result.{result_map_both}
use Rattle.std.specs.Prelude.{Ok}
use Rattle.lists.specs.Tests.{some}
use Rattle.lists.proofs.Arrays.{length-laid, take-laid, laid-snoc, laid-set, get_or-laid, length-snoc}
use Rattle.marks.specs.Bits.{within}
use Rattle.marks.proofs.Laws.{within-true}
use Rattle.tables.specs.declared.rule.Sort.TheVariants as sort
use Rattle.tables.specs.declared.rule.TransitionList.{TransitionList}
use Rattle.tables.specs.declared.tables.StoredBook.{StoredBook}
use Rattle.tables.specs.declared.load.Figure.{Figure}
use Rattle.tables.specs.declared.load.LoadList.{LoadList}
use Rattle.tables.specs.Refusals.{numbered, told}
use Rattle.tables.specs.Tables.{Sort, Transition, Load, Book, Tables, no_rule, no_load, rules_for}
use Rattle.tables.specs.Limits.{max_rules, same_rule, Limits}
use Rattle.tables.specs.Stored.{held_rules, stored_rules, stored_loads, places_of, stored_book, stored}
use Rattle.tables.specs.Changes.{with_rules, new_book, mark, add_rule, add_load, with_figure, on_load, set_figure, set_budget}
use Rattle.tables.specs.Operations.{rule_number, load_number, adding_number, adding, appended, load_appended, load_at, load_replaced, figure_set, put_book, put_loads, put_rules, book_begun, mark_set, rule_added, load_added, figure_changed, budget_changed}
use Rattle.tables.proofs.Lawful.{lawful}

-- ---- lists: rules of both sorts, and loads
-- by the tests: the number, and what is accepted
numbered-adding : {A B : Type 0} (f : A → B) (full there : Bool) (x : A) (y : B) → (full ≡ false → f x ≡ y)
    → numbered (result_map_both f (λ e. e) (adding full there x)) ≡ told (adding_number full there) y
numbered-adding f true there x y h = refl
numbered-adding f false true x y h = refl
numbered-adding f false false x y h = ap Ok (h refl)

pub appended-stored : {B : Type 0} (f : TransitionList → B) (rs : List Transition) (r : Transition) → length rs ≤ max_rules
    → numbered (result_map_both f (λ e. e) (appended (stored_rules rs) r)) ≡ told (rule_number rs r) (f (stored_rules (rs ++ (r ∷ []))))
unfolding appended rule_number
appended-stored f rs r h =
    rw (take-laid no_rule max_rules rs h)
    (numbered-adding f (leb max_rules (length rs)) (some (same_rule r) rs) _ _
    (λ e. rw (laid-snoc no_rule max_rules rs r (leb-false max_rules (length rs) e), length-snoc)))

pub load-appended-stored : {B : Type 0} (f : LoadList → B) (m : ℕ) (ls : List Load) (l : Load) → length ls ≤ m
    → numbered (result_map_both f (λ e. e) (load_appended (stored_loads m ls) l)) ≡ told (load_number m ls) (f (stored_loads m (ls ++ (l ∷ []))))
unfolding load_appended load_number
load-appended-stored f m ls l h =
    rw (take-laid no_load m ls h, length-laid no_load m ls)
    (numbered-adding f (leb m (length ls)) false _ _ (λ e. rw (laid-snoc no_load m ls l (leb-false m (length ls) e), length-snoc)))

-- ---- the load of a number: the ways out of the code, and on paper
pub within_not : (w n : ℕ) → (1 ≤ n → n ≤ w → ⊥) → within w n ≡ false
within_not w zero h = refl
within_not w (suc k) h = go (leb (suc k) w) refl
  where
    go : (b : Bool) → leb (suc k) w ≡ b → b ≡ false
    go true e = absurd (h (omega arith) (leb-true (suc k) w e))
    go false e = refl

module _ (n : ℕ) (l : LoadList) (k : ℕ) (full : places_of l ≡ n) where
  module _ (p : k ≡ 0 → ⊥) (h : k ≤ n) where
    pub load-in : get_or l.items (k - 1) no_load ≡ load_at l k
    unfolding load_at
    load-in = rw (full, within-true n k p h)

    pub replaced-in : (x : Load) → record { items = set l.items (k - 1) x; count = l.count } ≡ load_replaced l k x
    unfolding load_replaced
    replaced-in x = rw (full, within-true n k p h)

  module _ (h : within n k ≡ false) where
    pub load-out : no_load ≡ load_at l k
    unfolding load_at
    load-out = rw (full, h)

    pub replaced-out : (x : Load) → l ≡ load_replaced l k x
    unfolding load_replaced
    replaced-out x = rw (full, h)

figure-stored : (f : Load → Load) (n : ℕ) (ls : List Load) (k : ℕ) → 1 ≤ k → k ≤ length ls → length ls ≤ n
    → load_replaced (stored_loads n ls) k (f (load_at (stored_loads n ls) k)) ≡ stored_loads n (on_load f k ls)
figure-stored f n ls k one most few =
    let some-load : k ≡ 0 → ⊥ = λ e. omega arith in
    let at : k - 1 < length ls = omega arith in
    let s = stored_loads n ls in
    let full = length-laid no_load n ls in
    rw (
      ← load-in n s k full some-load (omega arith),
      ← replaced-in n s k full some-load (omega arith),
      get_or-laid no_load n ls (k - 1) at few,
      laid-set no_load n ls (k - 1) _ at few,
      length-set,
    )

-- ---- the rules of either sort, where they lie
held-rules : (k : Sort) (b : Book) → held_rules (stored_book b) k ≡ stored_rules (rules_for b k)
unfolding stored_book
held-rules sort.Load b = refl
held-rules sort.Row b = refl

put-rules : (k : Sort) (b : Book) (rs : List Transition) → put_rules k (stored_book b) (stored_rules rs) ≡ stored_book (with_rules k b rs)
unfolding stored_book
put-rules sort.Load b rs = refl
put-rules sort.Row b rs = refl

-- ---- the operations that give no number
module _ (t : Tables) where
  pub book-begun : (s g : ℕ) → book_begun (stored t) s g ≡ stored (new_book t s g)
  unfolding book_begun stored
  book-begun s g = refl

  pub mark-set : (k : Sort) (q : ℕ) → mark_set (stored t) k q ≡ stored (mark t k q)
  unfolding mark_set stored stored_book
  mark-set sort.Load q = refl
  mark-set sort.Row q = refl

  pub budget-changed : (w : ℕ) → budget_changed (stored t) w ≡ stored (set_budget t w)
  unfolding budget_changed stored
  budget-changed w = refl

module _ (t : Tables) (h : Limits t) where
  pub figure-changed : (f : Figure) (k x : ℕ) → 1 ≤ k → k ≤ length t.loads → figure_changed (stored t) f k x ≡ stored (set_figure t f k x)
  unfolding figure_changed figure_set stored
  figure-changed f k x one most = ap (put_loads (stored t)) (figure-stored (λ l. with_figure f l x) t.places t.loads k one most (lawful t h).loads)

  -- ---- those that may be refused
  pub rule-added : (k : Sort) (r : Transition) → numbered (rule_added (stored t) k r) ≡ told (rule_number (rules_for t.book k) r) (stored (add_rule t k r))
  unfolding rule_added stored
  rule-added k r =
      let rs = rules_for t.book k in
      rw (held-rules k t.book)
      (appended-stored (λ l. put_book (stored t) (put_rules k (stored_book t.book) l)) rs r ((lawful t h).rules k)
      ∙ ap (λ (b : StoredBook). told (rule_number rs r) (put_book (stored t) b)) (put-rules k t.book (rs ++ (r ∷ []))))

  pub load-added : (l : Load) → numbered (load_added (stored t) l) ≡ told (load_number t.places t.loads) (stored (add_load t l))
  unfolding load_added stored
  load-added l = load-appended-stored (put_loads (stored t)) t.places t.loads l (lawful t h).loads
