pub mod Answered
pub mod ReadLaws
pub use Rattle.search_folders.proofs.mail_draft_laws as mail_draft_laws
pub mod ListedLaws
pub mod ViewLaws
