pub mod Mending
pub mod Mended
pub mod Laws
