pub mod Places
pub mod Values
pub mod Tree
pub mod Changing
pub mod Settling
pub mod Columns
pub mod Ids
pub mod Folders
pub mod Names
pub mod Parts
pub mod Messages
pub mod Step
pub mod Whole
pub mod Start
pub mod Found
pub mod Standing
pub mod Flags
pub mod Knowing
pub use Rattle.command_text.specs as command_text
pub use Rattle.mail_objects.specs as mail_objects
