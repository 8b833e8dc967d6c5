pub mod Names
pub mod Blocks
pub mod Growth
pub use Rattle.node_layout.specs as node_layout
