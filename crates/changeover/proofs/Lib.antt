-- The laws of the definitions in specs/, and what is claimed of them.
pub mod Lengths
pub mod Orders
pub mod Handed
pub mod Refused
pub mod Listed
pub mod Phases
pub mod Safe
pub mod Sequence
pub mod Claims
