pub mod Effects
pub mod Recovery
pub mod Steps
