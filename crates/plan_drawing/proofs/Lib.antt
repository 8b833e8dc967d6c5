pub mod RecountLaws
pub mod NewLaws
pub mod FileLaws
pub mod StopLaws
pub mod TreeSteps
