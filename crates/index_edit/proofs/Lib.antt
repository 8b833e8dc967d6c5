pub mod CoverLaws
pub mod EditSteps
pub mod KeyLaws
pub mod LeafLaws
pub mod PlaceLaws
pub mod PutSteps
pub mod RowLaws
pub mod TreeSteps
