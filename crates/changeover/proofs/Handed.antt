-- A set that is handed in as bytes, by the command that reading them gives. Assumes nothing.
use Prim.Native.Nat.{ℕ}
use mathlib.Core.Path.{◌≡◌, refl}
use mathlib.Core.Bool.{Bool, true, false}
use mathlib.Core.List.{List}
use lib.Dec.{eqb}
use lib.ListN.{length}
use Rattle.std.specs.Bool.{then_some}
use Rattle.std.specs.Prelude.{Option, None}
use Rattle.marks.specs.declared.LoadSet.{LoadSet}
use Rattle.lines.specs.Grammar.{is_bits, loads_of}
use Rattle.lines.specs.Reading.{bits_of}
use Rattle.lines.specs.declared.Command.{Command}
use Rattle.lines.specs.declared.Command.TheVariants.{Check, Broken}
use Rattle.lists.specs.Tests.{pick}
use Rattle.changeover.specs.Sets.{ReadAs}

-- what is made of a command
abbrev pub set_read : (loads : ℕ) → Command → Option LoadSet
set_read n (Check s k) = then_some (eqb k n) s
set_read n c = None

pub set-read-as : (n : ℕ) (f : List ℕ) → ReadAs n f (set_read n (bits_of f))
unfolding bits_of
set-read-as n f = go (is_bits f) refl (eqb (length f) n) refl
  where
    go : (b : Bool) → is_bits f ≡ b → (d : Bool) → eqb (length f) n ≡ d → ReadAs n f (set_read n (pick (is_bits f) (Check (loads_of f) (length f)) Broken))
    go true e true e' = rw (e, e') (refl, refl)
    go true e false e' = rw (e, e') refl
    go false e d e' = rw e refl

-- of every command but a check
pub no-set-read : (n : ℕ) (c : Command) → ((s : LoadSet) (k : ℕ) → c ≡ Check s k → ⊥) → None ≡ set_read n c
no-set-read n (Check s j) k = absurd (k s j refl)
no-set-read n c k = refl
