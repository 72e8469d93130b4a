-- What every call answers: the state, the rows of the table, the causes of a refusal, the effect of a line, what is printed, a call, and lists of calls.
-- In the order of paper 01; Demand1, Demand2 and Demand3 have what is proved of them, Program what the line program prints, Padding, Saves, Drops,
-- Last, Need, Overfull and Fillings what requests One, Two, Three, Five, Nine, Ten and Eleven of paper 02 promise. Portions has the other sort of call.
pub mod State
pub mod Rows
pub mod Causes
pub mod Effects
pub mod Printing
pub mod Calls
pub mod Portions
pub mod Demand1
pub mod Demand2
pub mod Last
pub mod Need
pub mod Fillings
pub mod Demand3
pub mod Full
pub mod Padding
pub mod Program
pub mod Saves
pub mod Overfull
pub mod Drops
pub mod Session
