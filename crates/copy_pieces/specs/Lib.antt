pub mod Moved
pub mod Writes
pub mod Fixed
pub mod Headers
pub mod Source
pub mod Stops
