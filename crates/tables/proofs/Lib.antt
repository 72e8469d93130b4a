-- The laws of the definitions in specs/: the parts of the limits, the tables in a planner, the test of them, and what changes keep and give.
pub mod Parts
pub mod Lawful
pub mod Kept
pub mod Stored
pub mod Places
pub mod Numbers
pub mod Changes
pub mod Removed
pub mod Keeps
pub mod Plain
pub mod Examples
