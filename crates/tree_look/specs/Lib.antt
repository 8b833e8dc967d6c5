pub mod Forms
pub mod Faults
pub mod Walk
pub mod Stops
pub mod Seeing
pub mod Shows
pub use Rattle.mail_draft.specs as mail_draft
