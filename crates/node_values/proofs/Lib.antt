pub mod SubLaws
pub mod PieceLaws
pub mod NamedLaws
