pub mod FileFills
pub use Rattle.file_session.specs as file_session
pub use Rattle.store_filling.specs.mail_reading as mail_reading
pub use Rattle.store_filling.specs.mail_store as mail_store
pub use Rattle.file_session.specs.mail_transactions as mail_transactions
pub use Rattle.file_session.specs.pinned_session as pinned_session
pub use Rattle.store_filling.specs.search_folders as search_folders
pub use Rattle.store_filling.specs.search_store as search_store
pub use Rattle.store_filling.specs as store_filling
pub use Rattle.store_filling.specs.store_session as store_session
pub use Rattle.file_session.specs.mail_transactions.staged_store.staged_nodes as staged_nodes
