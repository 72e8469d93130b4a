-- The entries of a run by value and the run of entries: each is read back from the other. Assumes nothing.
use Prim.Native.Nat.{ℕ, zero, suc, ◌+◌, ◌≤◌, ◌<◌}
use mathlib.Core.Path.{◌≡◌, refl, sym, ap, ap₂, ◌∙◌}
use mathlib.Core.Bool.{Bool, true, false, ◌&&◌}
use mathlib.Core.List.{List, [], ◌∷◌, ◌++◌, map}
use native.Mathlib.Nat.{le_refl}
use native.Mathlib.Numerals.{one-add}
use native.Mathlib.Omega.{arith}
use borrow.Author.Tests.{eqb-true, eq-eqb, ne_eqb, le-leb}
use lib.Dec.{eqb}
use lib.ListN.{length, get_or, take, length-map, length-append}
use lib.Seq.{take-suc, take_all}
use Rattle.lists.specs.Tests.{pick}
use Rattle.lists.specs.Argmax.{guard}
use Rattle.lists.specs.Arrays.{laid}
use Rattle.lists.proofs.Bools.{and_left, and_right}
use Rattle.lists.proofs.Arrays.{get_or-laid}
use Rattle.lists.proofs.Places.{free-laid}
use Rattle.marks.specs.declared.LoadSet.{LoadSet}
use Rattle.marks.specs.Sets.{set_width, no_loads, joined, has_load, loads_up_to}
use Rattle.marks.proofs.Sets.{first_of, first-none, first_more, first-less, first-all}
use Rattle.tables.specs.declared.entry.Entry.{Entry}
use Rattle.meaning.specs.Choice.{no_entry, find}
use Rattle.meaning.specs.Claims.{Numbered}
use Rattle.runs.specs.declared.run.Run.{Run}
use Rattle.runs.specs.Runs.{joined_if_on, mark_all, run_of, entry_at, entries_to}
use Rattle.runs.specs.Outcome.{zero_from, run_free}
use Rattle.runs.proofs.Runs.{map_snoc, mark-snoc, has-shown}

-- ---- entries in load order
get_d_map : (f : Entry → ℕ) (es : List Entry) (i : ℕ) → i < length es → get_or (map f es) i 0 ≡ f (get_or es i no_entry)
get_d_map f [] i h = absurd (omega arith)
get_d_map f (e ∷ es) zero h = refl
get_d_map f (e ∷ es) (suc i) h = get_d_map f es i (omega arith)

pub find_at : (es : List Entry) (k i : ℕ) → Numbered k es → i < length es → find es (k + i) ≡ get_or es i no_entry
unfolding find
find_at [] k i o h = absurd (omega arith)
find_at (e ∷ es) k zero o h = rw (eq-eqb e.number (k + 0) (omega (arith, o.0)))
find_at (e ∷ es) k (suc i) o h =
    let s : k + suc i ≡ suc k + i = omega arith in
    rw (ne_eqb e.number (k + suc i) (λ q. absurd (omega (arith, o.0))), s) (find_at es (suc k) i o.1 (omega arith))

pub number_at : (es : List Entry) (k i : ℕ) → Numbered k es → i < length es → (get_or es i no_entry).number ≡ k + i
number_at [] k i o h = absurd (omega arith)
number_at (e ∷ es) k zero o h = omega (arith, o.0)
number_at (e ∷ es) k (suc i) o h = let j : k + suc i ≡ suc k + i = omega arith in number_at es (suc k) i o.1 (omega arith) ∙ sym j

one-or-none : (x : ℕ) → x ≤ 1 → guard (eqb x 1) 1 ≡ x
one-or-none zero l = refl
one-or-none (suc zero) l = refl
one-or-none (suc (suc x)) l = absurd (omega arith)

-- ---- the entries of the run of entries: each has its number, its mark is 0 or 1
module _ (w : ℕ) (most : w ≤ set_width) (es : List Entry) (o : Numbered 1 es) (few : length es ≤ w) (marks : (i : ℕ) → i < length es → (get_or es i no_entry).mark ≤ 1) where
  entry-at : (i : ℕ) → i < length es → entry_at (run_of w es) i ≡ get_or es i no_entry
  unfolding run_of
  entry-at i h =
      let number : suc i ≡ (get_or es i no_entry).number = omega (arith, number_at es 1 i o h) in
      let is = has-shown w es o (omega arith) (suc i) ∙ ap (λ (e : Entry). eqb e.mark 1) (ap (find es) (sym (one-add i)) ∙ find_at es 1 i o h) in
      let mark = ap (λ (b : Bool). guard b 1) is ∙ one-or-none (get_or es i no_entry).mark (marks i h) in
      λ j. record { number = number j; mark = mark j; state = at (λ e. e.state) j; rule = at (λ e. e.rule) j; row = at (λ e. e.row) j }
    where
      at : (f : Entry → ℕ) → get_or (laid 0 w (map f es)) i 0 ≡ f (get_or es i no_entry)
      at f = get_or-laid 0 w (map f es) i (omega (arith, length-map es f)) (omega (arith, length-map es f)) ∙ get_d_map f es i h

  entries-to : (n : ℕ) → n ≤ length es → entries_to (run_of w es) n ≡ take n es
  unfolding entries_to
  entries-to zero h = refl
  entries-to (suc n) h =
      ap (λ (ls : List Entry). ls ++ (entry_at (run_of w es) n ∷ [])) (entries-to n (omega arith))
      ∙ ap (λ (l : Entry). take n es ++ (l ∷ [])) (entry-at n (omega arith))
      ∙ sym (take-suc es n no_entry (omega arith))

  pub entries-read : entries_to (run_of w es) (length es) ≡ es
  entries-read = entries-to (length es) (le_refl (length es)) ∙ take_all (length es) es (omega arith)

-- ---- the first n entries of a run
module _ (r : Run) where
  pub entries-length : (n : ℕ) → length (entries_to r n) ≡ n
  unfolding entries_to
  entries-length zero = refl
  entries-length (suc n) = omega (arith, length-append (entries_to r n) (entry_at r n ∷ []), entries-length n)

  -- its column of states, of load rules or of row rules
  column : (f : Entry → ℕ) (xs : List ℕ) → ((i : ℕ) → f (entry_at r i) ≡ get_or xs i 0) → (n : ℕ) → n ≤ length xs → map f (entries_to r n) ≡ take n xs
  unfolding entries_to
  column f xs at zero h = refl
  column f xs at (suc n) h =
      map_snoc f (entries_to r n) (entry_at r n)
      ∙ ap₂ (λ (l : List ℕ) (x : ℕ). l ++ (x ∷ [])) (column f xs at n (omega arith)) (at n)
      ∙ sym (take-suc xs n 0 (omega arith))

  array : (w : ℕ) (f : Entry → ℕ) (xs : List ℕ) → ((i : ℕ) → f (entry_at r i) ≡ get_or xs i 0) → length xs ≡ w
      → (n : ℕ) → n ≤ w → zero_from n xs ≡ true → laid 0 w (map f (entries_to r n)) ≡ xs
  array w f xs at e n h z =
      ap (laid 0 w) (column f xs at n (omega arith))
      ∙ sym (free-laid 0 (λ x. eqb x 0) refl (λ a q. eqb-true a 0 q) w n xs e (rw (le-leb n w h) z))

  -- its set
  same-mark : (b : Bool) → eqb (guard b 1) 1 ≡ b
  same-mark true = refl
  same-mark false = refl

  pub set_to : (n : ℕ) → n ≤ set_width → mark_all no_loads (entries_to r n) ≡ first_of r.set n
  unfolding entries_to mark_all
  set_to zero h = first-none r.set
  set_to (suc n) h =
      mark-snoc no_loads (entries_to r n) (entry_at r n)
      ∙ ap (λ (s : LoadSet). joined_if_on s (entry_at r n)) (set_to n (omega arith))
      ∙ ap (λ (b : Bool). pick b (joined (first_of r.set n) (suc n)) (first_of r.set n)) (same-mark (has_load r.set (suc n)))
      ∙ go (has_load r.set (suc n)) refl
    where
      go : (b : Bool) → has_load r.set (suc n) ≡ b → pick b (joined (first_of r.set n) (suc n)) (first_of r.set n) ≡ first_of r.set (suc n)
      go true e = first_more r.set n h e
      go false e = first-less r.set n e

  -- the run of its entries, where all else is 0
  pub run-read : (w : ℕ) → w ≤ set_width → length r.states ≡ w → length r.load_rules ≡ w → length r.row_rules ≡ w
      → (n : ℕ) → n ≤ w → run_free n r ≡ true → run_of w (entries_to r n) ≡ r
  unfolding run_of run_free
  run-read w most a b c n h free =
      let z = zero_from n r.states && zero_from n r.load_rules in
      let y = z && zero_from n r.row_rules in
      let columns = and_left y (loads_up_to n r.set) free in
      let first = and_left z (zero_from n r.row_rules) columns in
      let states = array w (λ e. e.state) r.states (λ i. refl) a n h (and_left (zero_from n r.states) (zero_from n r.load_rules) first) in
      let rules = array w (λ e. e.rule) r.load_rules (λ i. refl) b n h (and_right (zero_from n r.states) (zero_from n r.load_rules) first) in
      let rows = array w (λ e. e.row) r.row_rules (λ i. refl) c n h (and_right z (zero_from n r.row_rules) columns) in
      let set = set_to n (omega arith) ∙ first-all r.set n (and_right y (loads_up_to n r.set) free) in
      λ i. record { states = states i; load_rules = rules i; row_rules = rows i; set = set i }
