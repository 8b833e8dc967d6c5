pub mod CellLaws
pub mod CoverLaws
pub mod FieldLaws
pub mod Numbers
