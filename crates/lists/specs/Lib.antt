-- Lists, as every other crate needs them: laid out in arrays, tested, searched for the greatest value, taken element by element, and compared so.
-- The papers' definitions are built from them; each file names what it is for.
pub mod Tests
pub mod Arrays
pub mod Places
pub mod Argmax
pub mod Each
pub mod Pairs
