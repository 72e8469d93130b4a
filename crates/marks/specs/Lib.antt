-- Sets of small numbers as binary digits: what `Marks` and `LoadSet` mean.
pub mod Bits
pub mod Sets
