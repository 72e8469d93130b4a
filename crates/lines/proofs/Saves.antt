-- Lines of changes as they are written: a number more, a change more, and a save part by part. Assumes nothing.
use Prim.Native.Nat.{ℕ, zero, suc, ◌+◌, ◌<◌}
use mathlib.Core.Path.{◌≡◌, refl, sym, ap, ap₂, ◌∙◌}
use mathlib.Core.Bool.{Bool, true, false}
use mathlib.Core.List.{List, [], ◌∷◌, ◌++◌, map, map-append, append-nil, append_assoc}
use native.Mathlib.Numerals.{add-one}
use native.Mathlib.Omega.{arith}
use borrow.Author.Tests.{eq-eqb, ne_eqb}
use lib.Dec.{eqb}
use lib.ListN.{length, take, get_or}
use lib.Seq.{take-suc, take_all}
use Rattle.lists.specs.Tests.{pick}
use Rattle.marks.specs.declared.Marks.{Marks}
use Rattle.marks.specs.Bits.{has_mark}
use Rattle.tables.specs.declared.rule.Sort.{Sort}
use Rattle.tables.specs.declared.rule.Sort.TheVariants as sort
use Rattle.tables.specs.declared.tables.StoredBook.{StoredBook}
use Rattle.tables.specs.declared.tables.StoredTables.{StoredTables}
use Rattle.tables.specs.Stored.{rules_of, loads_of, book_of, tables_of}
use Rattle.lines.specs.declared.SaveForm.{SaveForm}
use Rattle.lines.specs.declared.SaveForm.TheVariants.{Kinds, Plain}
use Rattle.lines.specs.declared.Change.{Change}
use Rattle.lines.specs.declared.Change.TheVariants.{Clear, Book, Budget}
use Rattle.lines.specs.Text.{comma, decimal}
use Rattle.lines.specs.Grammar.{kind_field, number_count, line_of}
use Rattle.lines.specs.Written.{parted, line, change_line}
use Rattle.lines.specs.declared.writing.Writer.{Writer}
use Rattle.lines.specs.Writing.{HasRoom, Writes}
use Rattle.lines.specs.Saved.{mark_change, mark_if_set, mark_changes, rule_change, load_change, size_change, book_changes, saved, changes_text, save_text}
use Rattle.lines.proofs.Writes.{turn_room, turn_more}

-- ---- a line with one number more
parted-snoc : (fs : List (List ℕ)) (w f : List ℕ) → parted w (fs ++ (f ∷ [])) ≡ parted w fs ++ (comma ∷ f)
unfolding parted
parted-snoc [] w f = refl
parted-snoc (g ∷ fs) w f = ap (λ (l : List ℕ). w ++ (comma ∷ l)) (parted-snoc fs g f) ∙ sym (append_assoc w (comma ∷ parted g fs) (comma ∷ f))

-- the word comes first
pub line_word : (w ns : List ℕ) → line w ns ≡ w ++ line [] ns
unfolding parted
line_word w [] = sym (append-nil w)
line_word w (n ∷ ns) = refl

pub line-next : (w v : List ℕ) (i : ℕ) → i < length v → line w (take (i + 1) v) ≡ line w (take i v) ++ (comma ∷ decimal (get_or v i 0))
line-next w v i h = rw (add-one i, take-suc v i 0 h, map-append) (parted-snoc (map decimal (take i v)) w (decimal (get_or v i 0)))

-- so many of all numbers of a load or of a load rule are those of the form
pub kind_taken : (f : SaveForm) (a b c k : ℕ) {m : ℕ} → m ≡ number_count f → take m (a ∷ b ∷ c ∷ k ∷ []) ≡ a ∷ b ∷ c ∷ kind_field f k
kind_taken Kinds a b c k e = rw e refl
kind_taken Plain a b c k e = rw e refl

-- ---- the text of changes
module _ (f : SaveForm) where
  pub text-append : (a b : List Change) → changes_text f (a ++ b) ≡ changes_text f a ++ changes_text f b
  unfolding changes_text
  text-append [] b = refl
  text-append (c ∷ a) b = ap (λ (t : List ℕ). change_line f c ++ t) (text-append a b) ∙ sym (append_assoc (change_line f c) (changes_text f a) (changes_text f b))

  pub text-one : (c : Change) → changes_text f (c ∷ []) ≡ change_line f c
  unfolding changes_text
  text-one c = append-nil (change_line f c)

  -- a line that is there only in a case
  pub text-if : (b : Bool) (c : Change) → b ≡ true → changes_text f (pick b (c ∷ []) []) ≡ change_line f c
  text-if b c e = rw e (text-one c)

  pub text-if-not : (b : Bool) (c : Change) → b ≡ false → changes_text f (pick b (c ∷ []) []) ≡ []
  unfolding changes_text
  text-if-not b c e = rw e

  pub size_none : (s g : ℕ) → s ≡ 0 → changes_text f (size_change s g) ≡ []
  unfolding size_change changes_text
  size_none s g e = rw (eq-eqb s 0 e)

  pub size-some : (s g : ℕ) → (s ≡ 0 → ⊥) → changes_text f (size_change s g) ≡ change_line f (Book s g)
  unfolding size_change
  size-some s g d = rw (ne_eqb s 0 d) (text-one (Book s g))

  -- one more of a list
  pub each_next : {A : Type 0} (h : A → Change) (d : A) (xs : List A) (i : ℕ) → i < length xs
      → changes_text f (map h (take (i + 1) xs)) ≡ changes_text f (map h (take i xs)) ++ change_line f (h (get_or xs i d))
  each_next h d xs i l =
      rw (add-one i, take-suc xs i d l, map-append)
      (text-append (map h (take i xs)) (h (get_or xs i d) ∷ []) ∙ ap (λ (t : List ℕ). changes_text f (map h (take i xs)) ++ t) (text-one (h (get_or xs i d))))

  -- a line each of a list, as a loop writes them
  module _ {A : Type 0} (h : A → Change) (d : A) (xs : List A) (i : ℕ) (less : i < length xs) where
    abbrev begun : ℕ → List ℕ
    begun i = changes_text f (map h (take i xs))

    abbrev part : ℕ → List ℕ
    part i = change_line f (h (get_or xs i d))

    whole : take (length xs) xs ≡ xs
    whole = take_all (length xs) xs (omega arith)

    pub each_room : {v w : Writer} → Writes v w (begun i) → HasRoom v (changes_text f (map h xs)) → HasRoom w (part i)
    each_room q room = turn_room begun part (length xs) (each_next h d xs) i less q (rw whole room)

    pub each_more : {u v w : Writer} → Writes u v (begun i) → Writes v w (part i) → Writes u w (begun (i + 1))
    each_more q r = turn_more begun part (length xs) (each_next h d xs) i less q r

  -- one number more that may be marked
  pub mark-next : (k : Sort) (m : Marks) (i : ℕ) → changes_text f (mark_changes k m (i + 1)) ≡ changes_text f (mark_changes k m i) ++ changes_text f (mark_if_set k m (i + 1))
  unfolding mark_changes
  mark-next k m i = rw (add-one i) (text-append (mark_changes k m i) (mark_if_set k m (suc i)))

  -- ---- the lines of a size and of marks are the same in every form
  size-line : (s g : ℕ) → change_line f (Book s g) ≡ change_line Kinds (Book s g)
  unfolding line_of
  size-line s g = refl

  mark-line : (k : Sort) (q : ℕ) → change_line f (mark_change k q) ≡ change_line Kinds (mark_change k q)
  unfolding line_of
  mark-line sort.Load q = refl
  mark-line sort.Row q = refl

  one_same : (b : Bool) (c : Change) → change_line f c ≡ change_line Kinds c → changes_text f (pick b (c ∷ []) []) ≡ changes_text Kinds (pick b (c ∷ []) [])
  unfolding changes_text
  one_same true c e = ap (λ (l : List ℕ). l ++ []) e
  one_same false c e = refl

  none-same : (b : Bool) (c : Change) → change_line f c ≡ change_line Kinds c → changes_text f (pick b [] (c ∷ [])) ≡ changes_text Kinds (pick b [] (c ∷ []))
  unfolding changes_text
  none-same true c e = refl
  none-same false c e = ap (λ (l : List ℕ). l ++ []) e

  size_same : (s g : ℕ) → changes_text f (size_change s g) ≡ changes_text Kinds (size_change s g)
  unfolding size_change
  size_same s g = none-same (eqb s 0) (Book s g) (size-line s g)

marks-same : (f : SaveForm) (k : Sort) (m : Marks) (n : ℕ) → changes_text f (mark_changes k m n) ≡ changes_text Kinds (mark_changes k m n)
unfolding mark_changes changes_text
marks-same f k m zero = refl
marks-same f k m (suc n) =
    text-append f (mark_changes k m n) (mark_if_set k m (suc n))
    ∙ ap₂ ◌++◌ (marks-same f k m n) (one_same f (has_mark m.0 (suc n)) (mark_change k (suc n)) (mark-line f k (suc n)))
    ∙ sym (text-append Kinds (mark_changes k m n) (mark_if_set k m (suc n)))

-- ---- the parts of a save
pub book-text : (f : SaveForm) (b : StoredBook) → changes_text f (book_changes (book_of b))
    ≡ changes_text Kinds (size_change b.states b.stages)
    ++ (changes_text Kinds (mark_changes sort.Load b.starts b.states)
    ++ (changes_text Kinds (mark_changes sort.Row b.ends b.stages)
    ++ (changes_text f (map (rule_change sort.Load) (rules_of b.load_rules))
    ++ changes_text f (map (rule_change sort.Row) (rules_of b.row_rules)))))
unfolding book_changes book_of
book-text f b =
    simp (text-append f, append_assoc) (rw (size_same f b.states b.stages, marks-same f sort.Load b.starts b.states, marks-same f sort.Row b.ends b.stages))

pub save-text : (f : SaveForm) (s : StoredTables) → save_text f (tables_of s)
    ≡ change_line f Clear ++ (changes_text f (book_changes (book_of s.book)) ++ (changes_text f (map load_change (loads_of s.loads)) ++ change_line f (Budget s.budget)))
unfolding saved tables_of
save-text f s = simp (text-append f, text-one f, append_assoc)
