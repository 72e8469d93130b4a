-- What is proved of the text of a save: it fits, and its lines are read back as its changes.
-- It stands for "It needs 3,000 free bytes", since request Ten 4,096, "lines that rebuild the state" and "Numbers are written without padding" of request
-- Two of paper 02, and for the form of that request in which `save1` of request Eight writes; and for the planner "as it stood after request Eight or
-- Nine" of request Ten, which has to read these lines too. Assumes nothing.
use Rattle.std.specs.Prelude.{ℕ, ◌≤◌, ◌≡◌, false, List, map, length}
use Rattle.lists.specs.Each.{Each}
use Rattle.tables.specs.Tables.{Tables}
use Rattle.lines.specs.declared.SaveForm.{SaveForm}
use Rattle.lines.specs.declared.Change as change
use Rattle.lines.specs.declared.Command.TheVariants.{Change}
use Rattle.lines.specs.Length.{most_bytes}
use Rattle.lines.specs.Grammar.{parse, told}
use Rattle.lines.specs.Padding.{unpadded, later_fields}
use Rattle.lines.specs.Written.{written}
use Rattle.lines.specs.Saved.{saved, save_text, loses_kinds, save_bytes}
use Rattle.lines.specs.Input.{lines}

-- a line that a planner takes as it stood before request Ten: "at most 80 bytes", and numbers of "one to five decimal digits"
pub record AsBefore (s : List ℕ) : Type 0 where
  pub short : length s ≤ 80
  pub digits : Each (λ n. length n ≤ 5) (later_fields s)

-- a line that is read back as what it tells; "Numbers are written without padding."
pub record ReadBack (f : SaveForm) (c : change.Change) : Type 0 where
  pub short : length (written f c) ≤ most_bytes
  pub before : AsBefore (written f c)
  pub read : parse (written f c) ≡ Change (told f c)
  pub unpadded : Each (λ n. unpadded n ≡ n) (later_fields (written f c))

-- the save of tables in a form: its bytes fit, and cut into lines they are those of its changes, each read back; where no kind is lost, as the
-- change itself
pub record SaveLines (f : SaveForm) (t : Tables) : Type 0 where
  pub fits : length (save_text f t) ≤ save_bytes
  pub cut : lines (save_text f t) ≡ map (written f) (saved t)
  pub back : Each (ReadBack f) (saved t)
  pub same : loses_kinds f t ≡ false → Each (λ c. told f c ≡ c) (saved t)
