pub mod Planning
pub mod Saying
pub mod Standing
pub mod Telling
pub use Rattle.pinned_session.specs as pinned_session
pub use Rattle.staged_nodes.specs as staged_nodes
