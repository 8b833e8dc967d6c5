pub mod Calls
pub mod FoundLaws
