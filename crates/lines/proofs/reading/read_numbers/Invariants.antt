-- `read_numbers` meets its contract. The invariants: what the fields after the word give is what the rest of the line gives from here.
-- Assumes nothing.
use Prim.Native.Nat.{◌-◌, ◌^◌, ◌≤◌, ◌<◌}
use mathlib.Core.Path.{◌≡◌}
use lib.ListN.{length}
use Rattle.lines.specs.Grammar.{most_digits}
use Rattle.lines.specs.Reading.{fields_after, most_numbers, numbers_in}
use Rattle.lines.proofs.Numbers.{after, from}
use Rattle.lines.proofs.reading.read_numbers.Given as goal

abbrev pub invariant-loop-at : goal.invariant-loop-at
invariant-loop-at l =
    (numbers_in l.most (fields_after l.end l.s) ≡ from l.most l.s l.at l.count l.values l.digits l.value) × (l.digits ≤ most_digits) × (l.value < 10 ^ l.digits)

abbrev pub decreases-loop-at : goal.decreases-loop-at
decreases-loop-at l = length l.s - l.at

abbrev pub invariant-fields : goal.invariant-fields
invariant-fields l =
    (numbers_in l.most (fields_after l.end l.s) ≡ after l.most l.s l.at l.count l.values) × (length l.values ≡ most_numbers)

abbrev pub decreases-fields : goal.decreases-fields
decreases-fields l = l.most - l.count
