-- What the parts of `read` find in a line: the numbers or the bits after its word, and the command of both.
-- They serve only inside; what a line means is `parse` of Grammar. Assumes nothing.
use Rattle.std.specs.Prelude.{ℕ, ◌+◌, ◌-◌, Bool, ◌&&◌, List, [], ◌∷◌, map, leb, ltb, eqb, max, length, get_or, drop, Option, Some, None}
use Rattle.lists.specs.Tests.{pick, every}
use Rattle.lists.specs.Arrays.{laid}
use Rattle.lines.specs.declared.Command.{Command}
use Rattle.lines.specs.declared.Command.TheVariants.{Change, Plan, Check, Save, Last, Need, Broken}
use Rattle.lines.specs.declared.Change.TheVariants as change
use Rattle.lines.specs.declared.SaveForm.TheVariants.{Kinds, Plain}
use Rattle.lines.specs.declared.reading.Numbers.{Numbers}
use Rattle.lines.specs.declared.reading.Request.{Request}
use Rattle.lines.specs.declared.reading.Request.TheVariants as request
use Rattle.lines.specs.Text.{same}
use Rattle.lines.specs.Grammar.{fields, most_digits, is_digit, is_number, value, is_bits, loads_of, Form, numbers, bits}

-- the fields after a word that ends at place e: none where the line ends there
unfoldable pub fields_after : ℕ → List ℕ → List (List ℕ)
fields_after e s = pick (ltb e (length s)) (fields (drop (e + 1) s)) []

-- ---- numbers
abbrev pub most_numbers : ℕ
most_numbers = 4

-- may b be the next digit of a number with so many digits so far?
abbrev pub may_follow : (digits b : ℕ) → Bool
may_follow d b = is_digit b && ltb d most_digits

abbrev pub some_numbers : ℕ → List ℕ → Option Numbers
some_numbers n vs = Some (record { count = n; values = vs })

-- the values of fields that are all numbers, and at most so many
unfoldable pub numbers_in : (most : ℕ) → List (List ℕ) → Option Numbers
numbers_in most fs = pick (every is_number fs && leb (length fs) most) (some_numbers (length fs) (laid 0 most_numbers (map value fs))) None

-- ---- bits
unfoldable pub bits_of : List ℕ → Command
bits_of f = pick (is_bits f) (Check (loads_of f) (length f)) Broken

-- ---- rows
-- how many numbers the rows have at most after the word w, where that is more than k, else k
unfoldable pub most_from : (k : ℕ) (w : List ℕ) → List Form → ℕ
most_from k w [] = k
most_from k w (numbers v n f ∷ xs) = most_from (pick (same v w) (max n k) k) w xs
most_from k w (bits v f ∷ xs) = most_from k w xs

-- how many they have at most after it; 0 where none has it
abbrev pub most_after : List ℕ → List Form → ℕ
most_after w xs = most_from 0 w xs

-- the command of a word and of the numbers after it
unfoldable pub row_command : List Form → (word : List ℕ) → Numbers → Command
row_command [] w n = Broken
row_command (numbers v k f ∷ xs) w n = pick (same v w && eqb n.count k) (f (λ i. get_or n.values (i - 1) 0)) (row_command xs w n)
row_command (bits v f ∷ xs) w n = row_command xs w n

-- what a row of the code asks for, with these numbers
abbrev pub requested : Request → List ℕ → Command
requested request.Clear ns = Change change.Clear
requested request.Book ns = Change (change.Book (get_or ns 0 0) (get_or ns 1 0))
requested request.Start ns = Change (change.Start (get_or ns 0 0))
requested request.End ns = Change (change.End (get_or ns 0 0))
requested request.Rule ns = Change (change.Rule (get_or ns 0 0) (get_or ns 1 0) (get_or ns 2 0) 0)
requested request.RuleOfKind ns = Change (change.Rule (get_or ns 0 0) (get_or ns 1 0) (get_or ns 2 0) (get_or ns 3 0))
requested request.Row ns = Change (change.Row (get_or ns 0 0) (get_or ns 1 0) (get_or ns 2 0))
requested request.Load ns = Change (change.Load (get_or ns 0 0) (get_or ns 1 0) (get_or ns 2 0) 0)
requested request.LoadOfKind ns = Change (change.Load (get_or ns 0 0) (get_or ns 1 0) (get_or ns 2 0) (get_or ns 3 0))
requested request.Power ns = Change (change.Power (get_or ns 0 0) (get_or ns 1 0))
requested request.Worth ns = Change (change.Worth (get_or ns 0 0) (get_or ns 1 0))
requested request.Budget ns = Change (change.Budget (get_or ns 0 0))
requested request.Plan ns = Plan
requested request.Save ns = Save Kinds
requested request.Save1 ns = Save Plain
requested request.Drop ns = Change (change.Drop (get_or ns 0 0))
requested request.Last ns = Last
requested request.Need ns = Need (get_or ns 0 0)
