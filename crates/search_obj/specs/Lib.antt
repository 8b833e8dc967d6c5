pub mod Flags
pub mod Crits
pub mod Objects
pub mod Found
pub mod Writing
pub mod Changing
pub mod Scope
