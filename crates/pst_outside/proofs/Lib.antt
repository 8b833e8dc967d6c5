pub mod Moments
pub mod Bytes
mod Disks
mod Histories
mod Picks
