pub mod Commits
pub mod CountLaws
pub mod Ending
pub mod Turns
pub use Rattle.mail_reading.proofs as mail_reading_laws
pub use Rattle.store_session.proofs.mail_store_laws as mail_store_laws
pub use Rattle.store_session.proofs as store_session_laws
