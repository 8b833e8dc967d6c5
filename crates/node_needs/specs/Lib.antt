pub mod Named
pub mod Needs
