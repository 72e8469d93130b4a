-- The commands, and how a line is read: paper 01, "Lines", with `save`, `drop`, `last`, `save1` and `need` of requests Two, Three, Five, Eight and Nine
-- of paper 02. `parse` gives every line of bytes its command, and `Broken` to each that is "no command of the table, wrong field count or form". The
-- length of a line is judged apart (`Length`), and first: `line_command`. `line_of` gives every change its line, in each form of a save. Assumes nothing.
use Rattle.std.specs.Prelude.{ℕ, suc, ◌+◌, ◌-◌, ◌*◌, ◌≡◌, refl, Bool, ◌&&◌, List, [], ◌∷◌, eqb, leb, length, get_or}
use Prim.Native.String.{String}
use Rattle.lists.specs.Tests.{pick, every}
use Rattle.marks.specs.declared.LoadSet.{LoadSet}
use Rattle.marks.specs.Sets.{no_loads, joined}
use Rattle.lines.specs.declared.Command.{Command}
use Rattle.lines.specs.declared.Command.TheVariants.{Change, Plan, Check, Save, Last, Need, Broken, TooLong}
use Rattle.lines.specs.declared.SaveForm.{SaveForm}
use Rattle.lines.specs.declared.SaveForm.TheVariants.{Kinds, Plain}
use Rattle.lines.specs.declared.Change as change
use Rattle.lines.specs.declared.Change.TheVariants.{Clear, Book, Start, End, Rule, Row, Load, Power, Worth, Budget, Drop}
use Rattle.lines.specs.Text.{bytes, comma, nought, same}
use Rattle.lines.specs.Length.{too_long}

-- ---- "Fields stand in a fixed order, parted by commas, with no quoting and no blanks."
-- one byte more at the front of the first field
abbrev pub on_first : ℕ → List (List ℕ) → List (List ℕ)
on_first b [] = []
on_first b (f ∷ fs) = (b ∷ f) ∷ fs

unfoldable pub fields : List ℕ → List (List ℕ)
fields [] = [] ∷ []
fields (b ∷ bs) = pick (eqb b comma) ([] ∷ fields bs) (on_first b (fields bs))

-- ---- "A number has one to five decimal digits" of paper 01. Its bar on leading zeros falls with request One of paper 02: "A number field may now
-- carry leading zeros, still within five digits." With request Ten: "numbers six digits".
abbrev pub most_digits : ℕ
most_digits = 6

abbrev pub is_digit : ℕ → Bool
is_digit b = leb nought b && leb b (nought + 9)

unfoldable pub is_number : List ℕ → Bool
is_number f = leb 1 (length f) && leb (length f) most_digits && every is_digit f

-- the value of a number, the digits before it having the value v
unfoldable pub value_from : ℕ → List ℕ → ℕ
value_from v [] = v
value_from v (b ∷ bs) = value_from (v * 10 + (b - nought)) bs

abbrev pub value : List ℕ → ℕ
value f = value_from 0 f

-- ---- "check,bits: one 0 or 1 for each load"; "An empty field, or another byte in it, is refusal 3"
abbrev pub is_bit : ℕ → Bool
is_bit b = leb nought b && leb b (nought + 1)

unfoldable pub is_bits : List ℕ → Bool
is_bits f = leb 1 (length f) && every is_bit f

-- the set with the loads from number k on whose bits are 1
unfoldable pub joined_from : ℕ → LoadSet → List ℕ → LoadSet
joined_from k s [] = s
joined_from k s (b ∷ bs) = joined_from (suc k) (pick (eqb b (nought + 1)) (joined s k) s) bs

-- the loads whose bit is 1: bit 1 is the first byte
abbrev pub loads_of : List ℕ → LoadSet
loads_of f = joined_from 1 no_loads f

-- ---- the table: a line has a word and some fields, each a number, or one field of bits. "A load and a load rule each gain a kind .. as last field
-- of their lines"; "Lines without it mean kind 0." of request Eight of paper 02.
pub data Form : Type 0 where
  numbers : (word : List ℕ) (count : ℕ) (command : (ℕ → ℕ) → Command) → Form
  bits : (word : List ℕ) (command : LoadSet → ℕ → Command) → Form

abbrev pub table : List Form
table =
    numbers (bytes "clear") 0 (λ n. Change Clear)
    ∷ numbers (bytes "book") 2 (λ n. Change (Book (n 1) (n 2)))
    ∷ numbers (bytes "start") 1 (λ n. Change (Start (n 1)))
    ∷ numbers (bytes "end") 1 (λ n. Change (End (n 1)))
    ∷ numbers (bytes "rule") 3 (λ n. Change (Rule (n 1) (n 2) (n 3) 0))
    ∷ numbers (bytes "rule") 4 (λ n. Change (Rule (n 1) (n 2) (n 3) (n 4)))
    ∷ numbers (bytes "row") 3 (λ n. Change (Row (n 1) (n 2) (n 3)))
    ∷ numbers (bytes "load") 3 (λ n. Change (Load (n 1) (n 2) (n 3) 0))
    ∷ numbers (bytes "load") 4 (λ n. Change (Load (n 1) (n 2) (n 3) (n 4)))
    ∷ numbers (bytes "power") 2 (λ n. Change (Power (n 1) (n 2)))
    ∷ numbers (bytes "worth") 2 (λ n. Change (Worth (n 1) (n 2)))
    ∷ numbers (bytes "budget") 1 (λ n. Change (Budget (n 1)))
    ∷ numbers (bytes "plan") 0 (λ n. Plan)
    ∷ bits (bytes "check") (λ s n. Check s n)
    ∷ numbers (bytes "save") 0 (λ n. Save Kinds)
    ∷ numbers (bytes "save1") 0 (λ n. Save Plain)
    ∷ numbers (bytes "drop") 1 (λ n. Change (Drop (n 1)))
    ∷ numbers (bytes "last") 0 (λ n. Last)
    ∷ numbers (bytes "need") 1 (λ n. Need (n 1))
    ∷ []

-- has a line with this word and these fields the form?
abbrev pub fits : Form → List ℕ → List (List ℕ) → Bool
fits (numbers w n c) v fs = same w v && eqb (length fs) n && every is_number fs
fits (bits w c) v fs = same w v && eqb (length fs) 1 && every is_bits fs

-- and what it asks for then: field k is the k-th after the word
abbrev pub asked : Form → List (List ℕ) → Command
asked (numbers w n c) fs = c (λ k. value (get_or fs (k - 1) []))
asked (bits w c) fs = c (loads_of (get_or fs 0 [])) (length (get_or fs 0 []))

unfoldable pub find_form : List Form → (word : List ℕ) → (fields : List (List ℕ)) → Command
find_form [] v fs = Broken
find_form (x ∷ xs) v fs = pick (fits x v fs) (asked x fs) (find_form xs v fs)

abbrev pub command : List (List ℕ) → Command
command [] = Broken
command (v ∷ fs) = find_form table v fs

unfoldable pub parse : List ℕ → Command
parse s = command (fields s)

-- what a line asks for: that it is too long has the lower number, so its length is judged before its form
unfoldable pub line_command : List ℕ → Command
line_command s = pick (too_long s) TooLong (parse s)

-- ---- the line of a change
-- what the table has for a word and numbers
unfoldable pub meant : List Form → (word : List ℕ) → (values : List ℕ) → Command
meant [] v ns = Broken
meant (numbers w n c ∷ xs) v ns = pick (same w v && eqb (length ns) n) (c (λ k. get_or ns (k - 1) 0)) (meant xs v ns)
meant (bits w c ∷ xs) v ns = meant xs v ns

-- the forms of a save: "`save` now writes every kind, 0 too, and `save1` writes the form of request Two", which has none. The last number of the line
-- of a load and of a load rule, how many numbers they have, and the kind that they tell: "Lines without it mean kind 0."
abbrev pub kind_field : SaveForm → (kind : ℕ) → List ℕ
kind_field Kinds k = k ∷ []
kind_field Plain k = []

abbrev pub number_count : SaveForm → ℕ
number_count Kinds = 4
number_count Plain = 3

abbrev pub kind_told : SaveForm → (kind : ℕ) → ℕ
kind_told Kinds k = k
kind_told Plain k = 0

-- the change that the line of a change tells in a form
abbrev pub told : SaveForm → change.Change → change.Change
told f Clear = Clear
told f (Book s g) = Book s g
told f (Start q) = Start q
told f (End g) = End g
told f (Rule q m g k) = Rule q m g (kind_told f k)
told f (Row g q h) = Row g q h
told f (Load p w v k) = Load p w v (kind_told f k)
told f (Power k w) = Power k w
told f (Worth k v) = Worth k v
told f (Budget w) = Budget w
told f (Drop k) = Drop k

-- a word and numbers for which the table has just that
pub record Line (f : SaveForm) (c : change.Change) : Type 0 where
  pub word : List ℕ
  pub values : List ℕ
  pub means : meant table word values ≡ Change (told f c)

abbrev says : {f : SaveForm} {c : change.Change} (word : String) (values : List ℕ) → meant table (bytes word) values ≡ Change (told f c) → Line f c
says w ns e = record { word = bytes w; values = ns; means = e }

pub rule-means : (f : SaveForm) (q m g k : ℕ) → meant table (bytes "rule") (q ∷ m ∷ g ∷ kind_field f k) ≡ Change (Rule q m g (kind_told f k))
unfolding meant same
rule-means Kinds q m g k = refl
rule-means Plain q m g k = refl

pub load-means : (f : SaveForm) (p w v k : ℕ) → meant table (bytes "load") (p ∷ w ∷ v ∷ kind_field f k) ≡ Change (Load p w v (kind_told f k))
unfolding meant same
load-means Kinds p w v k = refl
load-means Plain p w v k = refl

unfoldable pub line_of : (f : SaveForm) (c : change.Change) → Line f c
unfolding meant same
line_of f Clear = says "clear" [] refl
line_of f (Book s g) = says "book" (s ∷ g ∷ []) refl
line_of f (Start q) = says "start" (q ∷ []) refl
line_of f (End g) = says "end" (g ∷ []) refl
line_of f (Rule q m g k) = says "rule" (q ∷ m ∷ g ∷ kind_field f k) (rule-means f q m g k)
line_of f (Row g q h) = says "row" (g ∷ q ∷ h ∷ []) refl
line_of f (Load p w v k) = says "load" (p ∷ w ∷ v ∷ kind_field f k) (load-means f p w v k)
line_of f (Power k w) = says "power" (k ∷ w ∷ []) refl
line_of f (Worth k v) = says "worth" (k ∷ v ∷ []) refl
line_of f (Budget w) = says "budget" (w ∷ []) refl
line_of f (Drop k) = says "drop" (k ∷ []) refl
