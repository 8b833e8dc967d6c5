pub mod Between
pub mod Carry
pub mod Reached
pub mod SaveLaws
pub use Rattle.search_store.proofs.mail_draft_laws as mail_draft_laws
pub use Rattle.search_store.proofs.mail_folders_laws as mail_folders_laws
pub use Rattle.search_store.proofs.mail_store_laws as mail_store_laws
pub use Rattle.search_laws.proofs as search_laws
pub use Rattle.search_store.proofs as search_store_laws
