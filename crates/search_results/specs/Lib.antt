pub mod Concluding
pub mod Counting
pub mod Following
pub mod Forms
pub mod Moving
pub mod Touched
