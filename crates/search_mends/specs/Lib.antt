pub mod Mendings
pub mod Stops
pub mod Mends
pub use Rattle.store_session.specs.mail_store as mail_store
pub use Rattle.search_mending.specs as search_mending
pub use Rattle.store_session.specs.search_store as search_store
pub use Rattle.store_session.specs as store_session
