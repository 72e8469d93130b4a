-- A strip is a local list of cells, by allowance, that is raised rule by rule and then stored in the work.
-- It stands for no sentence of a paper. Assumes nothing.
use Rattle.std.specs.Prelude.{ℕ, max, ◌+◌, ◌-◌, ◌≤◌, ◌<◌, ◌≡◌, Option, MatchOption, List, leb, get_or}
use Rattle.lists.specs.Argmax.{guard}
use Rattle.meaning.specs.Cell.{◌⊕◌}

-- no number of a strip reaches this
abbrev pub strip_limit : ℕ
strip_limit = 2147483648

abbrev pub Small : List ℕ → Type 0
Small s = (a : ℕ) → get_or s a 0 < strip_limit

-- the cells f, each joined with a cell of its own, and moved up by a power
abbrev pub moved : (shift own : ℕ) → (ℕ → ℕ) → ℕ → ℕ
moved shift own f a = guard (leb shift a) (own ⊕ f (a - shift))

-- the strip t is s raised to f at the allowances from .. to, and s below them
pub record Raised (s t : List ℕ) (from to : ℕ) (f : ℕ → ℕ) : Type 0 where
  pub small : Small s → Small t
  pub below : (a : ℕ) → a < from → get_or t a 0 ≡ get_or s a 0
  pub at : Small s → (a : ℕ) → from ≤ a → a < to → get_or t a 0 ≡ max (get_or s a 0) (f a)

-- what R says at the allowances from .. to is f, and no more than a strip holds
abbrev pub Tells : (R : ℕ → ℕ → Type 0) → (f : ℕ → ℕ) → (from to : ℕ) → Type 0
Tells R f from to = (a y : ℕ) → from ≤ a → a < to → R a y → (y ≡ f a) × (f a < strip_limit)

-- f does not fall below n
abbrev pub Rising : (ℕ → ℕ) → ℕ → Type 0
Rising f n = (c d : ℕ) → c ≤ d → d < n → f c ≤ f d

-- f says 0 below n, and something from n on, as far as `to`
pub record Starts (f : ℕ → ℕ) (n to : ℕ) : Type 0 where
  pub none : (c : ℕ) → c < n → f c ≡ 0
  pub some : (c : ℕ) → n ≤ c → c < to → 0 < f c

-- r is an allowance from .. to, and from `from` up to it f, if it does not fall below `to`, says no more than last
pub record Passed (f : ℕ → ℕ) (last from to r : ℕ) : Type 0 where
  pub low : from ≤ r
  pub high : r ≤ to
  pub at : Rising f to → (d : ℕ) → from ≤ d → d < r → f d ≤ last

-- the first allowance from `from` on at which f, if it does not fall below `to`, says more than last; or that it says no more as far as `to`
abbrev pub NextStep : (f : ℕ → ℕ) → (last from to : ℕ) → Option ℕ → Type 0
NextStep f last from to found = MatchOption found (Passed f last from to to) (λ c. (c < to) × Passed f last from to c × (f c ≡ last → ⊥))

-- v is the work w with the strip's allowances from .. to at their places
pub record Stored (w s v : List ℕ) (at from to : ℕ) : Type 0 where
  pub below : (i : ℕ) → i < at + from → get_or v i 0 ≡ get_or w i 0
  pub above : (i : ℕ) → at + to ≤ i → get_or v i 0 ≡ get_or w i 0
  pub inside : (a : ℕ) → from ≤ a → a < to → get_or v (at + a) 0 ≡ get_or s a 0
