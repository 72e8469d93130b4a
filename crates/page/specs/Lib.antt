-- The page of the handheld: its rows, a drawing, and the stretch in which two pages differ; Claims has what is proved of them.
-- In the order of request Six of paper 02.
pub mod Rows
pub mod Drawing
pub mod Stretch
pub mod Claims
