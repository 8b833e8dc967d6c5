pub mod Bridge
pub mod SourceLaws
