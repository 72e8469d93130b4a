pub mod Runs
pub mod Entries
pub mod Places
pub mod Stored
