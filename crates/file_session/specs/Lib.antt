pub mod FileRun
pub mod Stops
pub use Rattle.file_open.specs as file_open
pub use Rattle.mail_transactions.specs as mail_transactions
pub use Rattle.mail_transactions.specs.pinned_session as pinned_session
