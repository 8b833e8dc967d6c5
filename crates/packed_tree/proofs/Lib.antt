pub mod PackedLaws
pub mod ShownLaws
