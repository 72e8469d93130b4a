pub mod Answers
pub mod Examples
pub mod Left
pub mod Named
pub mod Root
pub mod Rules
pub mod Steps
