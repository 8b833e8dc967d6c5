pub mod RowLaws
pub mod PassLaws
pub mod Steps
pub mod CheckLaws
