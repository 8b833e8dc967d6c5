pub mod Commit
pub mod Held
pub mod Keeping
pub mod Laws
pub use Rattle.lays_kept.specs as lays_kept
