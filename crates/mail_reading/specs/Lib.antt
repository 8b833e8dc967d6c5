pub mod Asked
pub mod Viewed
pub use Rattle.search_folders.specs.mail_draft as mail_draft
pub use Rattle.search_folders.specs as search_folders
