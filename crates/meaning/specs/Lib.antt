-- What the tables of paper 01 mean: runs, acceptance, the best set, the choice among equals, the check and the judge.
-- In the order of the papers; Portions has what the cells of a plan are the best of, Claims what is proved of the rest, Need the least budget for a
-- worth, Leaving what is proved of a tree that a load has left, Kindless what is of tables with all kinds 0.
pub mod Forest
pub mod Runs
pub mod Acceptance
pub mod Sets
pub mod Cell
pub mod Best
pub mod Choice
pub mod Order
pub mod Judge
pub mod Cells
pub mod Portions
pub mod Agree
pub mod Claims
pub mod Need
pub mod Leaving
pub mod Kindless
pub mod Cases
