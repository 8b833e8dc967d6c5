pub mod Cells
pub mod Edits
