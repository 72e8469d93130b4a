-- The laws of the definitions in specs/, from a change of the tables to a whole call.
pub mod Commands
pub mod RunLines
pub mod Refusing
pub mod Told
pub mod Searching
pub mod Budgets
pub mod Deciding
pub mod Portioning
pub mod Calling
pub mod Judging
pub mod Demands
