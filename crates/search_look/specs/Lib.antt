pub mod Having
pub mod Faults
pub mod Looking
pub mod Showing
