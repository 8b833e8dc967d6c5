pub mod Planning
pub use Rattle.mail_draft.specs as mail_draft
pub use Rattle.mail_store.specs as mail_store
pub use Rattle.search_folders.specs as search_folders
