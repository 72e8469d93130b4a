-- A run by value, and the outcome of a plan: on paper, in a planner, and the range of its figures.
-- Runs and Outcome are the interface; Places serves only inside.
pub mod Runs
pub mod Outcome
pub mod Places
