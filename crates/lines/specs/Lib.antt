-- Lines of bytes: how they are read, which of them differ only in leading zeros, how they are written, the lines of a save, what is printed, and
-- how input is cut into lines. Reading serves only inside.
pub mod Text
pub mod Length
pub mod Grammar
pub mod Padding
pub mod Writing
pub mod Written
pub mod Saved
pub mod Answers
pub mod Reading
pub mod Input
pub mod ReadBack
pub mod Shown
