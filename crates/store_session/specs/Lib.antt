pub mod Carrying
pub mod Disks
pub mod Run
pub mod Session
pub mod Turns
pub use Rattle.search_store.specs.mail_draft as mail_draft
pub use Rattle.search_store.specs.mail_store as mail_store
pub use Rattle.search_store.specs.search_folders as search_folders
pub use Rattle.search_store.specs as search_store
