pub mod Nodes
pub mod Pins
pub mod Slots
pub mod Stops
