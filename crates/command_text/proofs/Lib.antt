pub mod DigitLaws
pub mod Ids
