pub mod Commands
pub mod Counts
pub mod Doing
pub mod Filling
pub mod Places
pub use Rattle.mail_reading.specs.mail_draft as mail_draft
pub use Rattle.mail_reading.specs as mail_reading
pub use Rattle.store_session.specs.mail_store as mail_store
pub use Rattle.mail_reading.specs.search_folders as search_folders
pub use Rattle.store_session.specs.search_store as search_store
pub use Rattle.store_session.specs as store_session
