pub mod FitLaws
pub mod NamedLaws
pub mod StopLaws
pub mod StepLaws
