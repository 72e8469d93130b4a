-- Switching over from one set of loads to another: the sets handed in, the steps, and a changeover; Claims has what is proved of them.
-- In the order of request Twelve of paper 02.
pub mod Sets
pub mod Steps
pub mod Order
pub mod Changeover
pub mod Claims
