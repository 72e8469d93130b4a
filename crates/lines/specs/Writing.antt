-- What a writer puts into the free part of the output that is lent to it. Assumes nothing.
use Rattle.std.specs.Prelude.{ℕ, ◌+◌, ◌≤◌, ◌≡◌, List, length}
use Rattle.lines.specs.declared.writing.Writer.{Writer}
use Rattle.lines.specs.Answers.{Wrote}

-- there is room for a text, from the writer's place on
pub record HasRoom (w : Writer) (text : List ℕ) : Type 0 where
  pub fits : w.at + length text ≤ length w.out.now

-- a writer wrote a text, from its place on, into the output that it was lent
pub record Writes (before after : Writer) (text : List ℕ) : Type 0 where
  pub lent : after.out.ghost_name ≡ before.out.ghost_name
  pub wrote : Wrote before.out.now after.out.now before.at after.at text
