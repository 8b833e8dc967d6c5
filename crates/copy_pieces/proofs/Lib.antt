pub mod AddLaws
pub mod FixedLaws
pub mod PlaceLaws
pub mod StopLaws
