-- Lists of causes: the lowest number that applies is given. Assumes nothing.
use Prim.Native.Nat.{ℕ, ◌≤◌, ◌<◌}
use mathlib.Core.Path.{◌≡◌, refl}
use mathlib.Core.Bool.{Bool, true, false, not}
use mathlib.Core.List.{List, [], ◌∷◌}
use native.Mathlib.Omega.{arith}
use borrow.Author.Tests.{not-false}
use Rattle.tables.specs.Refusals as no
use Rattle.calls.specs.Rows.{Cause, ◌if◌}
use Rattle.calls.specs.Causes.{lowest, Applies, here, there}

-- where no cause applies
pub passed : (n : ℕ) (b : Bool) (cs : List Cause) → 0 < n → lowest ((n if b) ∷ cs) ≡ 0 → (b ≡ false) × (lowest cs ≡ 0)
unfolding lowest
passed n true cs p h = absurd (omega arith)
passed n false cs p h = (refl, h)

pub passed-not : (n : ℕ) (b : Bool) (cs : List Cause) → 0 < n → lowest ((n if not b) ∷ cs) ≡ 0 → (b ≡ true) × (lowest cs ≡ 0)
passed-not n b cs p h = let q = passed n (not b) cs p h in (not-false b q.0, q.1)

-- the causes stand in the order of their numbers, from n on to the last of the table
abbrev pub Ascending : ℕ → List Cause → Type 0
Ascending n [] = n ≤ no.greatest
Ascending n (c ∷ cs) = (n ≤ c.number) × Ascending c.number cs

pub ascending-from : {m n : ℕ} → m ≤ n → (cs : List Cause) → Ascending n cs → Ascending m cs
ascending-from l [] a = omega (arith, a)
ascending-from l (c ∷ cs) a = (omega (arith, a.0), a.1)

-- the causes stand in the order of their numbers, from n on
abbrev pub Rising : ℕ → List Cause → Type 0
Rising n [] = Unit {0}
Rising n (c ∷ cs) = (n ≤ c.number) × Rising c.number cs

pub rising : (n : ℕ) (cs : List Cause) → Ascending n cs → Rising n cs
rising n [] a = tt
rising n (c ∷ cs) a = (a.0, rising c.number cs a.1)

pub lowest-given : (cs : List Cause) → 0 < lowest cs → Applies (lowest cs) cs
unfolding lowest
lowest-given [] h = absurd (omega arith)
lowest-given (c ∷ cs) h = go c.applies refl (lowest-given cs) h
  where
    go : (b : Bool) → c.applies ≡ b → (0 < lowest cs → Applies (lowest cs) cs)
        → 0 < elim b as (λ x. ℕ) [ true ↦ c.number | false ↦ lowest cs ] → Applies (elim b as (λ x. ℕ) [ true ↦ c.number | false ↦ lowest cs ]) (c ∷ cs)
    go true e ih h = here refl e
    go false e ih h = there (ih h)

pub lowest-least : (m : ℕ) (cs : List Cause) → Rising m cs → (k : ℕ) → Applies k cs → (m ≤ lowest cs) × (lowest cs ≤ k)
unfolding lowest
lowest-least m [] a k x = elim x [ ]
lowest-least m (c ∷ cs) a k (here p e) = rw e (omega (arith, a.0))
lowest-least m (c ∷ cs) a k (there q) = go c.applies (lowest-least c.number cs a.1 k q)
  where
    go : (b : Bool) → (c.number ≤ lowest cs) × (lowest cs ≤ k)
        → (m ≤ elim b as (λ x. ℕ) [ true ↦ c.number | false ↦ lowest cs ]) × (elim b as (λ x. ℕ) [ true ↦ c.number | false ↦ lowest cs ] ≤ k)
    go true ih = omega (arith, a.0)
    go false ih = omega (arith, a.0)

ascending-most : (m : ℕ) (cs : List Cause) → Ascending m cs → m ≤ no.greatest
ascending-most m [] a = a
ascending-most m (c ∷ cs) a = omega (arith, a.0, ascending-most c.number cs a.1)

pub lowest-range : (m : ℕ) (cs : List Cause) → Ascending m cs → 0 < lowest cs → (m ≤ lowest cs) × (lowest cs ≤ no.greatest)
unfolding lowest
lowest-range m [] a h = absurd (omega arith)
lowest-range m (c ∷ cs) a h = go c.applies (lowest-range c.number cs a.1) h
  where
    go : (b : Bool) → (0 < lowest cs → (c.number ≤ lowest cs) × (lowest cs ≤ no.greatest)) → 0 < elim b as (λ x. ℕ) [ true ↦ c.number | false ↦ lowest cs ]
        → (m ≤ elim b as (λ x. ℕ) [ true ↦ c.number | false ↦ lowest cs ]) × (elim b as (λ x. ℕ) [ true ↦ c.number | false ↦ lowest cs ] ≤ no.greatest)
    go true ih h = omega (arith, a.0, ascending-most c.number cs a.1)
    go false ih h = omega (arith, a.0, ih h)
