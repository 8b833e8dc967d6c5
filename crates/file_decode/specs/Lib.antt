pub mod Decoding
pub mod Source
pub mod Laid
pub mod Decoded
