pub mod InFile
pub mod Told
