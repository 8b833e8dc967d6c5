pub mod Content
pub mod Orders
pub mod Eval
pub mod Reached
