-- The laws of the definitions in specs/, and what is claimed of them.
pub mod Digits
pub mod RowText
pub mod Rowwise
pub mod Differing
pub mod Drawn
pub mod Pages
pub mod Stretches
pub mod Drawings
pub mod Claims
