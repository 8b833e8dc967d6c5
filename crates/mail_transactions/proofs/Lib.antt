pub mod CommitLaws
pub mod Ending
pub mod Keeps
pub mod LineLaws
pub mod ReadLaws
pub mod SayLaws
pub mod Sessions
pub mod StandLaws
pub mod TurnLaws
pub use Rattle.staged_store.proofs as staged_store_laws
pub use Rattle.staged_store.proofs.pinned_session_laws as pinned_session_laws
