pub mod Planning
pub mod Space
pub mod Knowing
