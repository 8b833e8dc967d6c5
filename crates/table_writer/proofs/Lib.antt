pub mod FoundLaws
pub mod WovenLaws
pub mod PackLaws
pub mod MakingLaws
pub mod SinglesLaws
pub mod PutLaws
pub mod FillLaws
pub mod StepFillLaws
pub mod ColumnFillLaws
pub mod RowFillLaws
pub mod FoundRowLaws
pub mod MatrixLaws
pub mod HeaderLaws
pub mod TableLaws
pub mod SpaceLaws
pub use Rattle.table_context.proofs as table_context_laws
