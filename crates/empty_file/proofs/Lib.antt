pub mod Rising
pub mod Apart
pub mod Laid
pub mod Joined
pub mod Outcomes
