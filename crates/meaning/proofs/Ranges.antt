-- The figures of a chosen entry are in the ranges that the book gives them. Assumes nothing.
use Prim.Native.Nat.{ℕ, suc, ◌≤◌, ◌<◌, zero-le}
use mathlib.Core.Bool.{Bool, true, false, cond}
use mathlib.Core.List.{List, [], ◌∷◌, ◌++◌}
use native.Mathlib.Nat.{le_trans}
use lib.Dec.{eqb, lit≤}
use lib.ListN.{length}
use Rattle.lists.specs.Argmax.{argmax}
use Rattle.lists.proofs.Arrays.{at_every}
use Rattle.lists.proofs.Argmax.{argmax-within}
use Rattle.tables.specs.declared.rule.Sort.{Sort}
use Rattle.tables.specs.declared.rule.Sort.TheVariants as sort
use Rattle.tables.specs.declared.rule.Transition.{Transition}
use Rattle.tables.specs.Tables.{Tables, no_rule, rules_for}
use Rattle.tables.specs.Limits.{max_states, max_rules, range_for}
use Rattle.tables.specs.Lawful.{Lawful}
use Rattle.meaning.specs.Forest.{Item, Forest, nil, node, planned, checked, tree}
use Rattle.meaning.specs.Runs.{rule_at}
use Rattle.tables.specs.declared.entry.Entry.{Entry}
use Rattle.meaning.specs.Choice.{choose, choose_tree, plan, check, no_entry, find}

-- a property of each entry
data All (P : Entry → Type 0) : List Entry → Type 0 where
  done : All P []
  more : {e : Entry} {es : List Entry} → P e → All P es → All P (e ∷ es)

all_append : {P : Entry → Type 0} {xs ys : List Entry} → All P xs → All P ys → All P (xs ++ ys)
all_append done g = g
all_append (more h f) g = more h (all_append f g)

all-find : (P : Entry → Type 0) → P no_entry → (es : List Entry) (n : ℕ) → All P es → P (find es n)
unfolding find
all-find P z [] n done = z
all-find P z (e ∷ es) n (more h f) = go (eqb e.number n) (all-find P z es n f)
  where
    go : (t : Bool) → P (find es n) → P (cond t e (find es n))
    go true ih = h
    go false ih = ih

-- the figures of an entry
pub record Bounded (e : Entry) : Type 0 where
  pub mark : e.mark ≤ 1
  pub state : e.state ≤ max_states
  pub rule : e.rule ≤ max_rules
  pub row : e.row ≤ max_rules

module _ (t : Tables) (w : Lawful t) where
  -- the label of every rule is in its range, and so is that of the rule of zeros
  label-most : (k : Sort) (j : ℕ) → (rule_at (rules_for t.book k) j).label ≤ (range_for t.book k).high
  label-most k = at_every (λ j (r : Transition). r.label ≤ (range_for t.book k).high) no_rule (rules_for t.book k) (λ j. zero-le) (λ j l. (w.rule k j l).gives.1)

  bounded : (k q j r : ℕ) → q ≤ max_states → suc j ≤ max_rules → r ≤ max_rules
      → Bounded (record { number = k; mark = (rule_at t.book.load_rules j).label; state = q; rule = suc j; row = r })
  bounded k q j r a d e = record { mark = label-most sort.Load j; state = a; rule = d; row = e }

  abbrev BoundedFrom : Forest → Type 0
  BoundedFrom f = (g c : ℕ) → All Bounded (choose t.book f g c)

  -- the number of the rule chosen among those of a sort
  numbered : (k : Sort) (f : ℕ → ℕ) → (argmax f (length (rules_for t.book k))).index < max_rules
  numbered k f = argmax-within f (length (rules_for t.book k)) max_rules (w.rules k) (lit≤ tt)

  bounded-node : (k : ℕ) (i : Item) (below later : Forest) → BoundedFrom below → BoundedFrom later → BoundedFrom (node k i below later)
  unfolding choose
  bounded-node k i below later p q g c =
      all_append (more (bounded k _ _ _ (le_trans (label-most sort.Row _) w.states) (numbered sort.Load _) (numbered sort.Row _)) (p _ _)) (q _ _)

  bounded-choose : (f : Forest) → BoundedFrom f
  unfolding choose
  bounded-choose nil = λ g c. done
  bounded-choose (node k i below later) = bounded-node k i below later (bounded-choose below) (bounded-choose later)

  bounded-tree : (f : Forest) (c : ℕ) → All Bounded (choose_tree t.book f c)
  unfolding choose_tree
  bounded-tree nil c = done
  bounded-tree (node k i below later) c =
      more (bounded k _ _ 0 (argmax-within _ t.book.states max_states w.states (lit≤ tt)) (numbered sort.Load _) zero-le) (bounded-choose below _ _)

none-bounded : Bounded no_entry
none-bounded = record { mark = zero-le; state = zero-le; rule = zero-le; row = zero-le }

pub plan-bounded : (t : Tables) → Lawful t → (n : ℕ) → Bounded (find (plan t) n)
unfolding plan
plan-bounded t w n = all-find Bounded none-bounded _ n (bounded-tree t w (tree planned t.loads) t.budget)

pub check-bounded : (t : Tables) → Lawful t → (σ : ℕ → ℕ) → (n : ℕ) → Bounded (find (check t σ) n)
unfolding check
check-bounded t w σ n = all-find Bounded none-bounded _ n (bounded-tree t w (tree (checked σ) t.loads) 0)
