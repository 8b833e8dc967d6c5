pub mod Opening
pub mod Stops
pub use Rattle.store_open.specs as store_open
