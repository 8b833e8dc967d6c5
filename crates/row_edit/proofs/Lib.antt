pub mod PickLaws
pub mod CellLaws
pub mod IdLaws
pub mod RowLaws
pub mod FillLaws
