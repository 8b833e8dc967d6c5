pub mod Steps
pub mod ListLaws
pub mod TurnLaws
pub mod MendingLaws
pub mod PlanLaws
pub mod OneLaws
pub mod Reaching
pub mod Runs
pub use Rattle.search_mending.proofs as search_mending_laws
pub use Rattle.store_session.proofs as store_session_laws
