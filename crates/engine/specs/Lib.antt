-- What planning, checking and `need` answer, and how the run is read back from filled cells.
-- Figures, Need and Portion are the interface; Search, Parts and Pass serve only inside.
pub mod Figures
pub mod Search
pub mod Parts
pub mod Pass
pub mod Need
pub mod Portion
