pub mod Files
pub mod Keepers
