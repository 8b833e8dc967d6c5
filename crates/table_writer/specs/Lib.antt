pub mod Bits
pub mod Filling
pub mod Making
pub mod Woven
pub mod Writing
pub use Rattle.table_context.specs as table_context
