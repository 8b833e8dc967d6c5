pub mod Filled
pub use Rattle.store_filling.proofs.mail_reading_laws as mail_reading_laws
pub use Rattle.store_filling.proofs.mail_store_laws as mail_store_laws
pub use Rattle.file_session.proofs.mail_transactions_laws as mail_transactions_laws
pub use Rattle.file_session.proofs.pinned_session_laws as pinned_session_laws
pub use Rattle.store_filling.proofs as store_filling_laws
pub use Rattle.store_filling.proofs.store_session_laws as store_session_laws
