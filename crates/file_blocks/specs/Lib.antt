pub mod Blocks
pub mod Runs
pub mod Stops
pub use Rattle.block_frame.specs as block_frame
pub use Rattle.data_tree.specs as data_tree
