-- Lines of paper 01's session and lines that break the form, as they are read; its answers, as they are printed and read back; and input
-- cut into lines. All by computation. Assumes nothing.
use Prim.Native.Nat.{ℕ}
use Prim.Native.String.{String}
use mathlib.Core.Path.{◌≡◌, refl, ap}
use mathlib.Core.Bool.{true, false}
use mathlib.Core.List.{List, [], ◌∷◌, ◌++◌, map}
use native.Mathlib.Omega.{arith}
use lib.Dec.{lit≤}
use lib.ListN.{replicate, length}
use Rattle.lists.specs.Tests.{every, some}
use Rattle.lists.specs.Pairs.{none, both}
use Rattle.marks.specs.Bits.{with_mark}
use Rattle.marks.specs.declared.LoadSet.{LoadSet}
use Rattle.marks.specs.Sets.{joined}
use Rattle.lines.specs.declared.SaveForm.TheVariants.{Kinds, Plain}
use Rattle.lines.specs.declared.Command.{Command}
use Rattle.lines.specs.declared.Command.TheVariants.{Change, Plan, Check, Save, Last, Need, Broken}
use Rattle.lines.specs.declared.Change.TheVariants.{Clear, Book, Start, End, Rule, Row, Load, Power, Worth, Budget, Drop}
use Rattle.lines.specs.Text.{bytes, same, decimal_to, decimal, field}
use Rattle.lines.specs.Length.{too_long}
use Rattle.lines.specs.Grammar.{fields, is_number, value_from, is_bits, joined_from, find_form, parse}
use Rattle.lines.specs.Answers.{refused, plan_line, need_line, entry_line}
use Rattle.lines.specs.Padding.{unpadded, padded, OnlyZeros}
use Rattle.lines.specs.Input.{lines, feed, feed_all}
use Rattle.lines.specs.Shown.{entry_in, entries_in, shown}

abbrev reads : String → Command
reads s = parse (bytes s)

abbrev halves : ℕ → ℕ → LoadSet
halves x y = record { low = x; high = y }

session : map reads ("book,2,2" ∷ "start,1" ∷ "end,2" ∷ "rule,1,0,2" ∷ "row,2,2,2" ∷ "load,0,10,0" ∷ "budget,30" ∷ "plan" ∷ "check,0100" ∷ "budget,501" ∷ [])
    ≡ Change (Book 2 2) ∷ Change (Start 1) ∷ Change (End 2) ∷ Change (Rule 1 0 2 0) ∷ Change (Row 2 2 2) ∷ Change (Load 0 10 0 0) ∷ Change (Budget 30) ∷ Plan ∷ Check (halves 2 0) 4 ∷ Change (Budget 501) ∷ []
unfolding same fields is_number value_from is_bits joined_from find_form parse every with_mark joined
session = refl

others : map reads ("clear" ∷ "power,128,999999" ∷ "worth,0,1000" ∷ "check,1" ∷ "save" ∷ "save1" ∷ "drop,3" ∷ "drop,00000" ∷ "last" ∷ "need,70" ∷ "need,00070" ∷ "need,999999" ∷ [])
    ≡ Change Clear ∷ Change (Power 128 999999) ∷ Change (Worth 0 1000) ∷ Check (halves 1 0) 1 ∷ Save Kinds ∷ Save Plain ∷ Change (Drop 3) ∷ Change (Drop 0) ∷ Last ∷ Need 70 ∷ Need 70 ∷ Need 999999 ∷ []
unfolding same fields is_number value_from is_bits joined_from find_form parse every with_mark joined
others = refl

-- "as last field of their lines"; "Lines without it mean kind 0."
kinds : map reads ("rule,1,0,2,3" ∷ "rule,1,0,2,0" ∷ "rule,1,0,2" ∷ "rule,1,0,2,00004" ∷ "load,0,10,0,1" ∷ "load,0,10,0,0" ∷ "load,0,10,0" ∷ [])
    ≡ Change (Rule 1 0 2 3) ∷ Change (Rule 1 0 2 0) ∷ Change (Rule 1 0 2 0) ∷ Change (Rule 1 0 2 4) ∷ Change (Load 0 10 0 1) ∷ Change (Load 0 10 0 0) ∷ Change (Load 0 10 0 0) ∷ []
unfolding same fields is_number value_from is_bits joined_from find_form parse every with_mark joined
kinds = refl

-- "The new handheld keypad sends `load,001,015,040`": zeros in front, within the six digits of request Ten; the bits of a check are no number
keypad : map reads ("load,001,015,040" ∷ "start,000001" ∷ "budget,000000" ∷ "budget,00501" ∷ "power,00001,00000" ∷ "check,0001" ∷ [])
    ≡ Change (Load 1 15 40 0) ∷ Change (Start 1) ∷ Change (Budget 0) ∷ Change (Budget 501) ∷ Change (Power 1 0) ∷ Check (halves 8 0) 4 ∷ []
unfolding same fields is_number value_from is_bits joined_from find_form parse every with_mark joined
keypad = refl

-- it differs from the line without them only in such zeros
keypad-zeros : OnlyZeros (bytes "load,001,015,040") (bytes "load,1,15,40")
unfolding fields unpadded
keypad-zeros = record {
  word = refl;
  numbers = λ e. absurd (omega (arith, ap length e));
  each = both (padded (lit≤ tt) (lit≤ tt) refl) (both (padded (lit≤ tt) (lit≤ tt) refl) (both (padded (lit≤ tt) (lit≤ tt) refl) none));
}

-- each of these breaks the form: words, blanks, signs, a seventh digit though it be a zero in front, empty fields, wrong counts, bits that are none
unsound : List String
unsound =
    "" ∷ "," ∷ "Plan" ∷ "plans" ∷ "pla" ∷ "plan," ∷ "clear," ∷ " plan" ∷ "plan " ∷ "plan\n" ∷ "plan\r" ∷ ",plan" ∷ "clear,1" ∷ "Save" ∷ "saves" ∷ "sav" ∷ "save," ∷ "save,1" ∷ "budgets,1"
    ∷ "budget" ∷ "budget," ∷ "budget,1000000" ∷ "budget,0000000" ∷ "budget,0000001" ∷ "budget,-1" ∷ "budget,+1" ∷ "budget,1.0" ∷ "budget,1a" ∷ "budget, 1"
    ∷ "budget,1 " ∷ "budget,501," ∷ "budget,1,2" ∷ "book,1" ∷ "book,1,2,3" ∷ "book,,2" ∷ "load,0,501,x" ∷ "load,0,1" ∷ "load,0,1,1," ∷ "load,0,1,1,0,0" ∷ "load,0,1,1,0000000"
    ∷ "rule,1,0" ∷ "rule,1,0,1," ∷ "rule,1,0,1,," ∷ "rule,1,0,1,0,0" ∷ "row,1,1,1,0" ∷ "row,1,1,1," ∷ "save1," ∷ "save1,0" ∷ "save2" ∷ "save01" ∷ "save 1"
    ∷ "drop" ∷ "drop," ∷ "drop,1,2" ∷ "drop,-1" ∷ "drop,1000000" ∷ "Drop,1" ∷ "drops,1" ∷ "dro,1"
    ∷ "need" ∷ "need," ∷ "need,1,2" ∷ "need,-1" ∷ "need,0000001" ∷ "Need,1" ∷ "needs,1" ∷ "nee,1" ∷ "last," ∷ "last,1" ∷ "check" ∷ "check," ∷ "check,012" ∷ "check,0,1" ∷ "check,01," ∷ "check,,01" ∷ []

all-broken : map reads unsound ≡ replicate (length unsound) Broken
unfolding unsound same fields is_number value_from is_bits joined_from find_form parse every with_mark joined
all-broken = refl

-- a NUL byte, in front or behind, and a byte above 127
strange : map parse ((0 ∷ bytes "plan") ∷ (bytes "plan" ++ (0 ∷ [])) ∷ (bytes "budget,3" ++ (0 ∷ [])) ∷ (bytes "plan" ++ (255 ∷ [])) ∷ []) ≡ replicate 4 Broken
unfolding same fields is_number value_from is_bits joined_from find_form parse every with_mark joined
strange = refl

-- 138 bits are in form, and their count is known; those above 64 stand in the high half, and no load above 128 in either
wide : map (λ n. parse (bytes "check," ++ replicate n 49)) (65 ∷ 128 ∷ 138 ∷ [])
    ≡ Check (halves 18446744073709551615 1) 65 ∷ Check (halves 18446744073709551615 18446744073709551615) 128 ∷ Check (halves 18446744073709551615 18446744073709551615) 138 ∷ []
unfolding same fields is_number value_from is_bits joined_from find_form parse every with_mark joined
wide = refl

-- 144 bytes are no more than a line may have, 145 are, whatever they are
longest : map too_long ((bytes "check," ++ replicate 138 49) ∷ (bytes "check," ++ replicate 139 49) ∷ replicate 145 0 ∷ []) ≡ false ∷ true ∷ true ∷ []
longest = refl

-- ---- answers
printed : plan_line 70 30 3 ++ entry_line (record { number = 1; mark = 1; state = 1; rule = 2; row = 0 }) ++ entry_line (record { number = 4; mark = 0; state = 1; rule = 1; row = 1 }) ++ refused 10 ++ need_line 30 ≡ bytes "plan,70,30,3\n1,1,1,2,0\n4,0,1,1,1\nno,10\nneed,30\n"
unfolding plan_line entry_line refused need_line field decimal decimal_to
printed = refl

-- the loads on are those printed with mark 1
read_back : map (shown (bytes "plan,70,30,3\n1,1,1,2,0\n2,1,1,2,1\n3,1,1,2,1\n4,0,1,1,1\n")) (1 ∷ 2 ∷ 3 ∷ 4 ∷ 5 ∷ []) ≡ true ∷ true ∷ true ∷ false ∷ false ∷ []
unfolding entries_in entry_in lines fields value_from some
read_back = refl

-- ---- input: none, an empty line, a last line with and without its line feed, a line that is too long
cut : map lines ([] ∷ bytes "\n" ∷ bytes "plan\n\nclear\n" ∷ bytes "plan\nclear" ∷ []) ≡ [] ∷ ([] ∷ []) ∷ (bytes "plan" ∷ [] ∷ bytes "clear" ∷ []) ∷ (bytes "plan" ∷ bytes "clear" ∷ []) ∷ []
unfolding lines
cut = refl

chunks : feed_all [] (bytes "pl" ∷ bytes "an\ncl" ∷ [] ∷ replicate 200 48 ∷ bytes "\n1" ∷ []) ≡ bytes "plan" ∷ (bytes "cl" ++ replicate 143 48) ∷ bytes "1" ∷ []
unfolding feed_all feed
chunks = refl
