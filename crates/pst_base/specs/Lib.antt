pub mod Cells
pub mod Fields
pub mod Ids
pub mod Stops
pub mod Flat
pub mod Subs
pub mod SubsFall
