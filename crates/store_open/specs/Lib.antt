pub mod Opening
pub mod Stops
pub use Rattle.tree_look.specs as tree_look
