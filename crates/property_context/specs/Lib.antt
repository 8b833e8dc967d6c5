pub mod Context
pub mod Placing
pub mod Writing
pub use Rattle.write_limits.specs as write_limits
