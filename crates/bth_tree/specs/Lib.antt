pub mod Answers
pub mod Find
pub mod Making
pub mod Records
pub mod Tree
