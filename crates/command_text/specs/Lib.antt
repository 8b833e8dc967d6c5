pub mod Words
pub mod Arguments
pub mod Asking
pub mod Lines
pub mod Limits
pub mod Refusals
pub mod Replies
pub mod Refused
pub use Rattle.value_text.specs as value_text
