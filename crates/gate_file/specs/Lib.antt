pub mod Effective
pub mod Gate
