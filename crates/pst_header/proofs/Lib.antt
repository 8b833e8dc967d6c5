pub mod LayoutLaws
pub mod ReadingLaws
mod NewLaws
