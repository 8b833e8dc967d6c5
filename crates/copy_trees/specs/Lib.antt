pub mod Levels
pub mod Writes
pub use Rattle.packed_tree.specs as packed_tree
