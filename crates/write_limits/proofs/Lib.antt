pub mod DirectLaws
pub mod KeptLaws
