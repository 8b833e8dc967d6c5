pub mod Adding
pub mod Entries
pub mod Finding
pub mod Holding
