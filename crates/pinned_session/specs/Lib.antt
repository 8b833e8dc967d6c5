pub mod Holding
pub mod Pinning
pub mod Run
pub mod Sits
pub mod Sitting
pub mod Viewing
pub mod Showing
pub mod Views
pub use Rattle.mail_embedding.specs as mail_embedding
pub use Rattle.mail_reading.specs as mail_reading
pub use Rattle.pinned_views.specs as pinned_views
pub use Rattle.store_session.specs as store_session
