pub mod Making
pub mod Opened
pub use Rattle.mail_transactions.proofs as mail_transactions_laws
pub use Rattle.mail_transactions.proofs.pinned_session_laws as pinned_session_laws
