-- The test of tables that are handed in, part by part: how the code goes. proofs/Places shows that it is `keeps_limits`.
-- It stands for "every figure and reference is in range", "no rule is there twice" and "unused places hold 0" of paper 01. Assumes nothing.
use Rattle.std.specs.Prelude.{Bool, ◌&&◌}
use Rattle.tables.specs.declared.rule.RuleRange.{RuleRange}
use Rattle.tables.specs.declared.rule.TransitionList.{TransitionList}
use Rattle.tables.specs.declared.load.LoadList.{LoadList}
use Rattle.tables.specs.declared.tables.StoredBook.{StoredBook}
use Rattle.tables.specs.Tables.{Sort}
use Rattle.tables.specs.Limits.{rules_in, sort_in, book_in, loads_in}
use Rattle.tables.specs.Stored.{held_rules, rules_of, loads_of, places_of, book_of, rules_free, loads_free}

-- the rules in use keep their limits, and the other places hold 0
unfoldable pub rules_held : RuleRange → TransitionList → Bool
rules_held m l = rules_free l && rules_in m (rules_of l)

unfoldable pub loads_held : LoadList → Bool
loads_held l = loads_free l && loads_in (places_of l) (loads_of l)

unfoldable pub sort_held : Sort → StoredBook → Bool
sort_held k b = rules_free (held_rules b k) && sort_in k (book_of b)

unfoldable pub book_held : StoredBook → Bool
book_held b = rules_free b.load_rules && rules_free b.row_rules && book_in (book_of b)
