pub mod Answers
pub mod Context
pub mod Header
pub mod Rows
