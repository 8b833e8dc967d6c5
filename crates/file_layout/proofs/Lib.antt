pub mod Gates
pub mod PlaceLaws
pub mod ReachLaws
pub mod RiseLaws
pub mod SeatLaws
pub mod Underway
pub mod WalkLaws
