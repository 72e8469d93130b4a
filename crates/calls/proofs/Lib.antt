-- The theorems on calls, from the ground up: Demand1, Demand2 and Demand3 have the last ones of paper 01, Padding, Saves, SaveProgram, Drops
-- and Overfull those of requests One, Two, Three and Ten of paper 02; Last, Need and Fillings have what demand 3 says of
-- requests Five, Nine and Eleven.
pub mod State
pub mod Numbers
pub mod Answers
pub mod Work
pub mod Fits
pub mod Rows
pub mod Refusals
pub mod Keeps
pub mod Printed
pub mod ByRow
pub mod Demand1
pub mod ByCommand
pub mod Demand2
pub mod Plans
pub mod Last
pub mod Need
pub mod Portions
pub mod Fillings
pub mod PortionDemand1
pub mod Demand3
pub mod Full
pub mod Steps
pub mod Rebuilds
pub mod Saves
pub mod Overfull
pub mod Drops
pub mod Program
pub mod SaveProgram
pub mod Padding
pub mod Session
