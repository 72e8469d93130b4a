-- The theorems on the definitions of specs/, from the ground up; Claims has what the demands rest on, Need what request Nine does, Leaving what
-- request Three does, Kindless what request Eight does, Portions what request Eleven says of the cells.
pub mod Cell
pub mod Tree
pub mod Ordered
pub mod Optimal
pub mod Entries
pub mod Ranges
pub mod InOrder
pub mod Lowest
pub mod Plan
pub mod Check
pub mod Judge
pub mod Named
pub mod Agree
pub mod Rows
pub mod Bound
pub mod Cells
pub mod Portions
pub mod SameRows
pub mod Claims
pub mod Need
pub mod Leaving
pub mod Kindless
pub mod Cases
