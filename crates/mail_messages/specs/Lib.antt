pub mod Finding
pub mod Parts
pub mod Pieces
pub mod Reading
