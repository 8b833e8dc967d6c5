pub mod Adding
pub mod Edits
pub mod Pairs
pub mod Rows
