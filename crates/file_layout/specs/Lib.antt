pub mod Nodes
pub mod Opening
pub mod Trees
pub mod Walk
pub mod Numbers
