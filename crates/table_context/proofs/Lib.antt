pub mod StepLaws
pub mod CellLaws
pub mod LayoutLaws
pub mod RowLaws
pub mod ContextLaws
