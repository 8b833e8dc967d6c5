pub mod Excludes
pub mod Found
pub mod Steps
pub mod Learning
pub mod Rows
pub mod Ids
pub mod Gather
pub mod Owned
pub mod Made
pub mod One
pub mod Again
pub mod Known
pub use Rattle.mail_draft.proofs as mail_draft_laws
