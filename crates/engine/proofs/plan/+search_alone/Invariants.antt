-- `search_alone` never calls itself, so every measure will do. Assumes nothing.
use Rattle.engine.proofs.plan.+search_alone.Given as goal

abbrev pub decreases-search_alone : goal.decreases-search_alone
decreases-search_alone l = 0
