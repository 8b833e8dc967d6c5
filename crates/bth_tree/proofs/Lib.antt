pub mod FindLaws
pub mod MakeLaws
pub mod OptionLaws
pub mod ReadLaws
pub mod RecordLaws
pub mod TreeLaws
pub mod WholeLaws
