-- The tables of paper 01: on paper; their limits, as a test and as facts; in a planner, with the test of the limits; and what changes them, on
-- paper and there.
-- Places serves only inside; of Operations, the changes in a planner, others use that they are those of Changes on paper.
pub mod Refusals
pub mod Tables
pub mod Limits
pub mod Lawful
pub mod Stored
pub mod Kinds
pub mod Places
pub mod Changes
pub mod Operations
