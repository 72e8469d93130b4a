-- What the limits say of small tables, by computation: one case for each clause of "A planner handed in keeps these limits"; and loads that leave.
-- Assumes nothing.
use Prim.Native.Nat.{ℕ}
use mathlib.Core.Path.{◌≡◌, refl}
use mathlib.Core.Bool.{true, false}
use mathlib.Core.List.{List, [], ◌∷◌, map}
use lib.ListN.{set}
use Rattle.lists.specs.Tests.{some, every, every_from, distinct}
use Rattle.lists.specs.Arrays.{laid}
use Rattle.lists.specs.Places.{limited}
use Rattle.tables.specs.declared.tables.StoredTables.{StoredTables}
use Rattle.tables.specs.Tables.{Transition, Load, Tables, fresh}
use Rattle.tables.specs.Limits.{rule_in, same_rule, sort_in, book_in, load_in, max_loads, loads_in, limits}
use Rattle.tables.specs.Stored.{stored_book, stored, book_of, tables_of, zero_rule, zero_load, keeps_limits}
use Rattle.tables.specs.Changes.{has_children, remaining}
use Rattle.tables.specs.Operations.{put_loads}

rule_of : (kind : ℕ) → ℕ → ℕ → ℕ → Transition
rule_of k a b d = record { from = a; label = b; to = d; kind = k }

rule : ℕ → ℕ → ℕ → Transition
rule = rule_of 0

load_of : (kind : ℕ) → ℕ → ℕ → ℕ → Load
load_of k p w v = record { parent = p; kind = k; power = w; worth = v }

load : ℕ → ℕ → ℕ → Load
load = load_of 0

-- S, G, start marks, end marks, load rules, row rules, loads, budget
tables : (states stages starts ends : ℕ) → List Transition → List Transition → List Load → ℕ → Tables
tables s g a e rs ws ls b = record {
  book = record { states = s; stages = g; starts = record { 0 = a }; ends = record { 0 = e }; load_rules = rs; row_rules = ws };
  loads = ls;
  budget = b;
  places = max_loads;
}

lawful : Tables
lawful = tables 2 1 3 1 (rule 1 0 1 ∷ rule 2 1 1 ∷ rule_of 3 2 1 1 ∷ []) (rule 1 2 1 ∷ []) (load 0 500 0 ∷ load 1 0 1000 ∷ load_of 3 2 1 1 ∷ []) 500

-- each differs from tables that keep the limits in one thing
broken : List Tables
broken =
    tables 2 0 0 0 [] [] [] 0
    ∷ tables 9 1 0 0 [] [] [] 0
    ∷ tables 2 1 4 0 [] [] [] 0
    ∷ tables 2 1 0 2 [] [] [] 0
    ∷ tables 2 1 0 0 (rule 3 0 1 ∷ []) [] [] 0
    ∷ tables 2 1 0 0 (rule 1 2 1 ∷ []) [] [] 0
    ∷ tables 2 1 0 0 (rule 1 0 2 ∷ []) [] [] 0
    ∷ tables 2 1 0 0 [] (rule 1 0 1 ∷ []) [] 0
    ∷ tables 2 1 0 0 (rule 1 0 1 ∷ rule 2 1 1 ∷ rule 1 0 1 ∷ []) [] [] 0
    ∷ tables 2 1 0 0 (rule_of 4 1 0 1 ∷ []) [] [] 0
    ∷ tables 2 1 0 0 (rule_of 1 1 0 1 ∷ rule 1 0 1 ∷ rule_of 1 1 0 1 ∷ []) [] [] 0
    ∷ tables 2 1 0 0 [] (rule_of 1 1 1 1 ∷ []) [] 0
    ∷ tables 0 0 0 0 [] [] (load 1 0 0 ∷ []) 0
    ∷ tables 0 0 0 0 [] [] (load 0 0 0 ∷ load 0 0 0 ∷ []) 0
    ∷ tables 0 0 0 0 [] [] (load 0 0 0 ∷ load 2 0 0 ∷ []) 0
    ∷ tables 0 0 0 0 [] [] (load 0 501 0 ∷ []) 0
    ∷ tables 0 0 0 0 [] [] (load 0 0 1001 ∷ []) 0
    ∷ tables 0 0 0 0 [] [] (load_of 4 0 0 0 ∷ []) 0
    ∷ tables 0 0 0 0 [] [] [] 501
    ∷ []

lawful-kept : map limits (fresh max_loads ∷ lawful ∷ []) ≡ true ∷ true ∷ []
unfolding limits book_in sort_in limited every distinct some every_from rule_in same_rule load_in loads_in fresh lawful tables rule_of rule load_of load
lawful-kept = refl

broken-seen : some limits broken ≡ false
unfolding limits book_in sort_in limited every distinct some every_from rule_in same_rule load_in loads_in broken tables rule_of rule load_of load
broken-seen = refl

-- something at an unused place is seen, also at the last
littered : StoredTables
littered = put_loads (stored lawful) (record { items = set (stored lawful).loads.items 63 (load 0 0 1); count = 3 })

litter-seen : map keeps_limits (stored lawful ∷ littered ∷ []) ≡ true ∷ false ∷ []
unfolding keeps_limits tables_of book_of stored stored_book laid zero_rule zero_load limits book_in sort_in limited every distinct some every_from rule_in same_rule load_in loads_in littered lawful tables rule_of rule load_of load
litter-seen = refl

-- ---- loads that leave
tree : List Load
tree = load 0 1 1 ∷ load 1 2 2 ∷ load 1 3 3 ∷ load 3 4 4 ∷ load 1 5 5 ∷ load 5 6 6 ∷ []

-- a leaf in the middle, the last load, and the only one
remain : map (λ k. remaining k tree) (2 ∷ 4 ∷ 6 ∷ [])
    ≡ (load 0 1 1 ∷ load 1 3 3 ∷ load 2 4 4 ∷ load 1 5 5 ∷ load 4 6 6 ∷ [])
    ∷ (load 0 1 1 ∷ load 1 2 2 ∷ load 1 3 3 ∷ load 1 5 5 ∷ load 4 6 6 ∷ [])
    ∷ (load 0 1 1 ∷ load 1 2 2 ∷ load 1 3 3 ∷ load 3 4 4 ∷ load 1 5 5 ∷ [])
    ∷ []
unfolding remaining tree load_of load
remain = refl

alone : remaining 1 (load 0 9 9 ∷ []) ≡ []
unfolding remaining
alone = refl

parents : map (λ k. has_children k tree) (1 ∷ 2 ∷ 3 ∷ 4 ∷ 5 ∷ 6 ∷ []) ≡ true ∷ false ∷ true ∷ false ∷ true ∷ false ∷ []
unfolding has_children some tree load_of load
parents = refl
