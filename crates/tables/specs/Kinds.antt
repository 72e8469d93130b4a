-- Kinds in use.
-- It stands for "some load or load rule has a kind other than 0" of request Eight of paper 02. Assumes nothing.
use Rattle.std.specs.Prelude.{ℕ, Bool, ◌||◌, ltb}
use Rattle.lists.specs.Tests.{some}
use Rattle.tables.specs.Tables.{Transition, Load, Tables}

-- "a kind other than 0"
abbrev pub kinded : (kind : ℕ) → Bool
kinded k = ltb 0 k

unfoldable pub rule_kinded : Transition → Bool
rule_kinded r = kinded r.kind

unfoldable pub load_kinded : Load → Bool
load_kinded l = kinded l.kind

-- "some load or load rule"
unfoldable pub has_kinds : Tables → Bool
has_kinds t = some rule_kinded t.book.load_rules || some load_kinded t.loads
