pub mod BlockSteps
pub mod NextLaws
pub mod NodeSteps
pub mod OpeningLaws
pub mod RefSteps
pub mod RunSteps
pub mod ScanLaws
pub mod WideLaws
