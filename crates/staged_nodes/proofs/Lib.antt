pub mod CountLaws
pub mod SizeLaws
pub mod OverLaws
pub mod SlotLaws
pub mod ListLaws
pub mod LookLaws
pub mod StagedLaws
