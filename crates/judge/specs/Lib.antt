-- The judge: what it answers, what is claimed of its answers, and how its code goes: the figures that it looks up and its walk.
-- Figures and Walk serve only inside.
pub mod Verdict
pub mod Claims
pub mod Figures
pub mod Walk
