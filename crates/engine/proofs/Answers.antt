-- What the load lines of a run say of its set: its marks, and its size as the number of loads on. Assumes nothing.
use Prim.Native.Nat.{◌≤◌}
use mathlib.Core.Path.{◌≡◌, ap, ◌∙◌}
use mathlib.Core.List.{List}
use native.Mathlib.Omega.{arith}
use lib.ListN.{length}
use Rattle.tables.specs.Tables.{Tables}
use Rattle.tables.specs.Limits.{max_loads}
use Rattle.tables.specs.declared.entry.Entry.{Entry}
use Rattle.meaning.specs.Sets.{number_on}
use Rattle.meaning.specs.Choice.{shown_set}
use Rattle.meaning.specs.Claims.{EachLoad}
use Rattle.marks.specs.Sets.{size_of, mark_in}
use Rattle.runs.specs.Runs.{run_of}
use Rattle.runs.proofs.Runs.{shown-set, shown-within}
use Rattle.engine.proofs.Sums.{size-on}

module _ (t : Tables) (es : List Entry) (l : EachLoad t es) (few : length t.loads ≤ max_loads) where
  -- the set of the run is the set shown
  pub lines-set : mark_in (run_of max_loads es).set ≡ shown_set es
  lines-set = shown-set max_loads es l.each (omega (arith, l.all))

  -- "n by count of ones": its size is the number of loads on
  pub lines-size : size_of (run_of max_loads es).set ≡ number_on t (shown_set es)
  lines-size =
      size-on t (run_of max_loads es).set (omega arith) (λ k h. shown-within max_loads es l.each (omega (arith, l.all)) k (omega (arith, l.all)))
      ∙ ap (number_on t) lines-set
