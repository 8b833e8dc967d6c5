pub mod Kept
pub mod Moved
pub mod Grown
pub mod Stands
pub mod Renewed
pub mod Saved
