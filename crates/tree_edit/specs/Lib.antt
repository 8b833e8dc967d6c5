pub mod Shapes
pub mod Edits
pub mod Plans
pub mod Pages
pub mod Source
pub mod Joins
pub mod Steps
