pub mod Laying
pub use Rattle.empty_file.specs as empty_file
