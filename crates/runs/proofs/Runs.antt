-- Runs by value: a load more, and the set of the loads that are on. Assumes nothing.
use Prim.Native.Nat.{ℕ, zero, suc, ◌+◌, ◌-◌, ◌≤◌, ◌<◌}
use mathlib.Core.Path.{◌≡◌, refl, sym, ap, ap₂, ◌∙◌, subst, fun_ext}
use mathlib.Core.Bool.{Bool, true, false, cond, ◌||◌}
use mathlib.Core.List.{List, [], ◌∷◌, ◌++◌, map}
use native.Mathlib.Numerals.{one-add}
use native.Mathlib.Omega.{arith}
use borrow.Author.Tests.{eqb-true, eqb-false, ne_eqb}
use lib.Dec.{eqb}
use lib.ListN.{length, set, length-map}
use Rattle.lists.specs.Tests.{pick}
use Rattle.lists.specs.Argmax.{guard}
use Rattle.lists.specs.Arrays.{laid}
use Rattle.lists.proofs.Arrays.{laid-snoc}
use Rattle.marks.specs.declared.LoadSet.{LoadSet}
use Rattle.marks.specs.Sets.{set_width, no_loads, joined, has_load, mark_in}
use Rattle.marks.proofs.Sets.{has-no-loads, has-joined-same, has-joined-other}
use Rattle.tables.specs.declared.entry.Entry.{Entry}
use Rattle.meaning.specs.Choice.{no_entry, find, in_order, marks_of, shown_set}
use Rattle.meaning.specs.Claims.{Numbered}
use Rattle.runs.specs.declared.run.Run.{Run}
use Rattle.runs.specs.Runs.{joined_if_on, mark_all, run_of, with_entry}

-- ---- entries in load order
pub order-length : (es : List Entry) (k n : ℕ) → length (in_order es k n) ≡ n
unfolding in_order
order-length es k zero = refl
order-length es k (suc n) = ap suc (order-length es (suc k) n)

order-snoc : (es : List Entry) (k n : ℕ) → in_order es k (suc n) ≡ in_order es k n ++ (find es (k + n) ∷ [])
unfolding in_order
order-snoc es k zero = ap (λ i. find es i ∷ []) (omega arith)
order-snoc es k (suc n) =
    ap (λ (l : List Entry). find es k ∷ l) (order-snoc es (suc k) n ∙ ap (λ i. in_order es (suc k) n ++ (find es i ∷ [])) (omega arith))

pub order-next : (es : List Entry) (n : ℕ) → in_order es 1 (suc n) ≡ in_order es 1 n ++ (find es (suc n) ∷ [])
order-next es n = rw (order-snoc es 1 n, one-add)

pub order-numbered : (es : List Entry) (k n : ℕ) → ((i : ℕ) → k ≤ i → i < k + n → (find es i).number ≡ i) → Numbered k (in_order es k n)
unfolding in_order
order-numbered es k zero h = tt
order-numbered es k (suc n) h = (h k (omega arith) (omega arith), order-numbered es (suc k) n (λ i a b. h i (omega arith) (omega arith)))

-- ---- a load more
pub map_snoc : (f : Entry → ℕ) (es : List Entry) (e : Entry) → map f (es ++ (e ∷ [])) ≡ map f es ++ (f e ∷ [])
map_snoc f [] e = refl
map_snoc f (x ∷ es) e = ap (λ (l : List ℕ). f x ∷ l) (map_snoc f es e)

pub mark-snoc : (s : LoadSet) (es : List Entry) (e : Entry) → mark_all s (es ++ (e ∷ [])) ≡ joined_if_on (mark_all s es) e
unfolding mark_all
mark-snoc s [] e = refl
mark-snoc s (x ∷ es) e = mark-snoc (joined_if_on s x) es e

laid_more : (w : ℕ) (f : Entry → ℕ) (es : List Entry) (e : Entry) (n : ℕ) → n ≡ suc (length es) → length es < w
    → set (laid 0 w (map f es)) (n - 1) (f e) ≡ laid 0 w (map f (es ++ (e ∷ [])))
laid_more w f es e n q h =
    let i : n - 1 ≡ length (map f es) = omega (arith, length-map es f) in
    ap (λ i. set (laid 0 w (map f es)) i (f e)) i
    ∙ laid-snoc 0 w (map f es) (f e) (omega (arith, length-map es f))
    ∙ ap (laid 0 w) (sym (map_snoc f es e))

abbrev run_from : List ℕ → List ℕ → List ℕ → LoadSet → Run
run_from a b c s = record { states = a; load_rules = b; row_rules = c; set = s }

pub run-snoc : (w : ℕ) (es : List Entry) (e : Entry) → e.number ≡ suc (length es) → length es < w → with_entry (run_of w es) e ≡ run_of w (es ++ (e ∷ []))
unfolding run_of with_entry
run-snoc w es e q h =
    ap₂ (λ a b. run_from a b (set (laid 0 w (map (λ e. e.row) es)) (e.number - 1) e.row) (joined_if_on (mark_all no_loads es) e))
    (laid_more w (λ e. e.state) es e e.number q h) (laid_more w (λ e. e.rule) es e e.number q h)
    ∙ ap₂ (λ a s. run_from (laid 0 w (map (λ e. e.state) (es ++ (e ∷ [])))) (laid 0 w (map (λ e. e.rule) (es ++ (e ∷ [])))) a s)
    (laid_more w (λ e. e.row) es e e.number q h) (sym (mark-snoc no_loads es e))

-- ---- the set
or-none : (a : Bool) → a || false ≡ a
or-none true = refl
or-none false = refl

find-before : (es : List Entry) (k n : ℕ) → Numbered k es → n < k → find es n ≡ no_entry
unfolding find
find-before [] k n o h = refl
find-before (e ∷ es) k n o h = rw (ne_eqb e.number n (λ q. absurd (omega (arith, o.0)))) (find-before es (suc k) n o.1 (omega arith))

-- a load is in the set if it was, or if its entry is on
has-marked : (s : LoadSet) (es : List Entry) (k n : ℕ) → Numbered (suc k) es → k + length es ≤ set_width
    → has_load (mark_all s es) n ≡ eqb (find es n).mark 1 || has_load s n
unfolding mark_all find
has-marked s [] k n o h = refl
has-marked s (e ∷ es) k n o h =
    has-marked (joined_if_on s e) es (suc k) n o.1 (omega arith) ∙ go (eqb e.number n) refl
  where
    here : e.number ≡ n → (t : Bool) → eqb e.mark 1 ≡ t → has_load (pick t (joined s e.number) s) n ≡ t || has_load s n
    here q true m = subst (λ i. has_load (joined s e.number) i ≡ true) q (has-joined-same s e.number (omega (arith, o.0)) (omega (arith, o.0)))
    here q false m = refl

    there : (e.number ≡ n → ⊥) → (t : Bool) → has_load (pick t (joined s e.number) s) n ≡ has_load s n
    there q true = has-joined-other s e.number n (λ x. q (sym x))
    there q false = refl

    go : (t : Bool) → eqb e.number n ≡ t → eqb (find es n).mark 1 || has_load (joined_if_on s e) n ≡ eqb (cond t e (find es n)).mark 1 || has_load s n
    go true q =
        ap (λ (x : Entry). eqb x.mark 1 || has_load (joined_if_on s e) n) (find-before es (suc (suc k)) n o.1 (omega (arith, o.0, eqb-true e.number n q)))
        ∙ here (eqb-true _ _ q) (eqb e.mark 1) refl
    go false q = ap (λ b. eqb (find es n).mark 1 || b) (there (eqb-false _ _ q) (eqb e.mark 1))

find_past : (es : List Entry) (k n : ℕ) → Numbered k es → k + length es ≤ n → find es n ≡ no_entry
unfolding find
find_past [] k n o h = refl
find_past (e ∷ es) k n o h = rw (ne_eqb e.number n (λ q. absurd (omega (arith, o.0)))) (find_past es (suc k) n o.1 (omega arith))

module _ (w : ℕ) (es : List Entry) (o : Numbered 1 es) (few : length es ≤ set_width) where
  pub has-shown : (n : ℕ) → has_load (run_of w es).set n ≡ eqb (marks_of es n) 1
  unfolding run_of
  has-shown n = has-marked no_loads es 0 n o (omega arith) ∙ rw (has-no-loads n) (or-none (eqb (marks_of es n) 1))

  -- the run's set is the loads that are shown with mark 1
  pub shown-set : mark_in (run_of w es).set ≡ shown_set es
  shown-set = fun_ext (λ n. ap (λ t. guard t 1) (has-shown n))

  -- none of them is past the last
  pub shown-within : (n : ℕ) → length es < n → has_load (run_of w es).set n ≡ false
  shown-within n h = has-shown n ∙ ap (λ (e : Entry). eqb e.mark 1) (find_past es 1 n o (omega arith))
