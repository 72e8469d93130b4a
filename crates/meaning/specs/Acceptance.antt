-- Acceptance by a top-down tree automaton (document 000, section 2.1).
-- It stands for "This is document 000's acceptance, where (q, mark) goes to (q1, .., qd) exactly if some load rule and chain of row rules
-- give it" of paper 01, and for "Acceptance is document 000's, with kind and mark together as the letter" of request Eight of paper 02.
-- Assumes nothing.
use Rattle.std.specs.Prelude.{ℕ, ◌≡◌, List, [], ◌∷◌, T}
use Rattle.tables.specs.declared.rule.Transition.{Transition}
use Rattle.tables.specs.Tables.{Book}
use Rattle.meaning.specs.Forest.{Item, Forest, nil, node}
use Rattle.meaning.specs.Runs.{is_end, rule, Begins, Starts}

-- "kind and mark together"
pub record Letter : Type 0 where
  pub kind : ℕ
  pub mark : ℕ

-- the letter of a load with a mark, and the letter that a load rule is for
abbrev pub letter_of : Item → (mark : ℕ) → Letter
letter_of i m = record { kind = i.kind; mark = m }

abbrev pub letter_for : Transition → Letter
letter_for r = record { kind = r.kind; mark = r.label }

module _ (b : Book) where
  -- a chain of row rules from stage g gives the states in order and reaches an end stage
  abbrev pub Chain : ℕ → List ℕ → Type 0
  Chain g [] = T (is_end b g)
  Chain g (q ∷ qs) = (n : ℕ) × Begins b.row_rules n g × ((rule b.row_rules n).label ≡ q) × Chain (rule b.row_rules n).to qs

  -- the automaton's transition: (q, x) goes to (q1, .., qd)
  abbrev pub Rewrites : Letter → ℕ → List ℕ → Type 0
  Rewrites x q qs =
      (n : ℕ) × Begins b.load_rules n q × (letter_for (rule b.load_rules n) ≡ x) × Chain (rule b.load_rules n).to qs

  -- the states are those of the roots of the forest, in order, and each branch is accepted from its state
  abbrev pub AcceptsRow : (ℕ → ℕ) → Forest → List ℕ → Type 0
  AcceptsRow σ nil [] = Unit {0}
  AcceptsRow σ nil (q ∷ qs) = ⊥
  AcceptsRow σ (node k i below later) [] = ⊥
  AcceptsRow σ (node k i below later) (q ∷ qs) =
      ((rs : List ℕ) × Rewrites (letter_of i (σ k)) q rs × AcceptsRow σ below rs) × AcceptsRow σ later qs

  -- the root begins in a start state
  abbrev pub Accepts : (ℕ → ℕ) → Forest → Type 0
  Accepts σ nil = ⊥
  Accepts σ (node k i below later) = (q : ℕ) × Starts b q × (qs : List ℕ) × Rewrites (letter_of i (σ k)) q qs × AcceptsRow σ below qs
