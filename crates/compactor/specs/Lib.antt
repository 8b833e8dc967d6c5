pub mod Source
pub mod Layout
pub mod Compacted
pub mod Steps
pub mod Written
