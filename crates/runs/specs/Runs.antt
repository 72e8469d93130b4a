-- The entries of a plan as a run by value: three numbers for each load in load order, and the set of the loads that are on.
-- They stand for "then for each load number,mark,state,load rule,row rule" and "chosen set held as a u64 of marks" of paper 01.
-- Assumes nothing.
use Rattle.std.specs.Prelude.{ℕ, zero, suc, ◌-◌, List, [], ◌∷◌, ◌++◌, map, eqb, get_or, set}
use Rattle.lists.specs.Tests.{pick}
use Rattle.lists.specs.Arrays.{laid}
use Rattle.marks.specs.declared.LoadSet.{LoadSet}
use Rattle.marks.specs.Sets.{no_loads, joined, mark_in}
use Rattle.tables.specs.declared.entry.Entry.{Entry}
use Rattle.runs.specs.declared.run.Run.{Run}

-- a set with the load of an entry, if it is on
abbrev pub joined_if_on : LoadSet → Entry → LoadSet
joined_if_on s e = pick (eqb e.mark 1) (joined s e.number) s

-- a set with the loads of the entries that are on
unfoldable pub mark_all : LoadSet → List Entry → LoadSet
mark_all s [] = s
mark_all s (e ∷ es) = mark_all (joined_if_on s e) es

-- the run that entries in load order show, with so many places for loads
unfoldable pub run_of : (places : ℕ) → List Entry → Run
run_of w es = record {
  states = laid 0 w (map (λ e. e.state) es);
  load_rules = laid 0 w (map (λ e. e.rule) es);
  row_rules = laid 0 w (map (λ e. e.row) es);
  set = mark_all no_loads es;
}

-- a run with one more entry
unfoldable pub with_entry : Run → Entry → Run
with_entry r e = record {
  states = set r.states (e.number - 1) e.state;
  load_rules = set r.load_rules (e.number - 1) e.rule;
  row_rules = set r.row_rules (e.number - 1) e.row;
  set = joined_if_on r.set e;
}

-- the entry of the load at place i of a run, and those of its first n loads
abbrev pub entry_at : Run → ℕ → Entry
entry_at r i = record {
  number = suc i;
  mark = mark_in r.set (suc i);
  state = get_or r.states i 0;
  rule = get_or r.load_rules i 0;
  row = get_or r.row_rules i 0;
}

unfoldable pub entries_to : Run → ℕ → List Entry
entries_to r zero = []
entries_to r (suc n) = entries_to r n ++ (entry_at r n ∷ [])
