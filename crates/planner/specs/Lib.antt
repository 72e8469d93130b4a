-- The planner: a fresh one, the answers to lines, and what its commands, its calls and its portions give.
-- Planner, Calls, Portions and Verdict are the interface; Changes and Decided serve only inside.
pub mod Planner
pub mod Changes
pub mod Decided
pub mod Calls
pub mod Portions
pub mod Verdict
