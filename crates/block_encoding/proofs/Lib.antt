pub mod Steps
pub mod Inverse
