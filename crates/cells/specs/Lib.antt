-- The cells of a search: the problem, its outline, where its cells stand in the lent work and what they hold, and the strip in which a
-- stretch is made. Problem, Outline, Work and Claims are the interface; Strip and Stretch serve only inside.
pub mod Problem
pub mod Outline
pub mod Work
pub mod Strip
pub mod Stretch
pub mod Claims
