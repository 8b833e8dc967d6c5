pub mod Crc
pub mod Sig
pub mod Taken
