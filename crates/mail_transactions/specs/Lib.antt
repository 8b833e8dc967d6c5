pub mod Committing
pub mod Keeping
pub mod Lines
pub mod Opening
pub mod Run
pub mod Session
pub mod Stands
pub mod State
pub use Rattle.staged_store.specs as staged_store
pub use Rattle.staged_store.specs.pinned_session as pinned_session
