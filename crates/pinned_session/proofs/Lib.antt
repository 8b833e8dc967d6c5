pub mod AskLaws
pub mod LineLaws
pub mod EmbeddingLaws
pub mod ViewLaws
pub mod MakeLaws
pub mod PinnedKeeps
pub mod PinAnswers
pub mod PinLaws
pub use Rattle.store_session.proofs as store_session_laws
pub use Rattle.mail_embedding.proofs as mail_embedding_laws
pub use Rattle.mail_reading.proofs as mail_reading_laws
pub use Rattle.pinned_views.proofs as pinned_views_laws
