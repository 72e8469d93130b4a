-- `read_bits` meets its contract. The invariant: what all the bits give is what those from here on give. Assumes nothing.
use mathlib.Core.Path.{◌≡◌}
use lib.ListN.{drop}
use Rattle.lines.specs.Reading.{bits_of}
use Rattle.lines.proofs.Bits.{bits_from}
use Rattle.lines.proofs.reading.read_bits.Given as goal

abbrev pub invariant-loop-b : goal.invariant-loop-b
invariant-loop-b l = (bits_of l.bits ≡ bits_from l.count l.set (drop l.b-index l.bits)) × (l.count ≡ l.b-index)
