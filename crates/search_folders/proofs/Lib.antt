pub mod Among
pub mod Lines
pub mod IndexLaws
pub mod Made
pub mod Built
pub mod Set
pub use Rattle.mail_draft.proofs as mail_draft_laws
pub use Rattle.mail_folders.proofs as mail_folders_laws
