-- The laws of the definitions in specs/, a file for each of theirs.
pub mod Bools
pub mod Tests
pub mod Each
pub mod Arrays
pub mod Places
pub mod Argmax
pub mod Iterating
pub mod Examples
