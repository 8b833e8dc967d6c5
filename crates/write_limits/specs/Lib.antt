pub mod Limits
pub mod Space
