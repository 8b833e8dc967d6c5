pub mod Looking
pub mod Room
pub mod Sizes
pub mod Staged
pub mod Staging
pub mod Telling
