pub mod Forms
pub mod Hex
pub mod Numbers
pub mod Truths
pub mod UnitBytes
