pub mod TellLaws
pub mod MakeLaws
pub mod RespondLaws
pub mod UnderLaws
pub use Rattle.pinned_session.proofs as pinned_session_laws
pub use Rattle.pinned_session.proofs.store_session_laws as store_session_laws
pub use Rattle.staged_nodes.proofs as staged_nodes_laws
