-- The power and the worth of a set, in one pass over the loads.
-- They stand for "A set's worth and power are the sums of its loads' figures" of paper 01. Assumes nothing.
use Rattle.std.specs.Prelude.{ℕ, List}
use Rattle.tables.specs.declared.load.Load.{Load}
use Rattle.meaning.specs.Forest.{sum}
use Rattle.meaning.specs.Sets.{counted}
use Rattle.engine.specs.declared.figures.Figures.{Figures}

-- what a load counts for in a set σ
abbrev pub power_in : (ℕ → ℕ) → ℕ → Load → ℕ
power_in σ k l = counted (σ k) l.power

abbrev pub worth_in : (ℕ → ℕ) → ℕ → Load → ℕ
worth_in σ k l = counted (σ k) l.worth

abbrev pub figures_of : List Load → (ℕ → ℕ) → Figures
figures_of ls σ = record { power = sum (power_in σ) ls 1; worth = sum (worth_in σ) ls 1 }
