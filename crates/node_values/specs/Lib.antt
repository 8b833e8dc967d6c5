pub mod Named
pub mod Subnodes
