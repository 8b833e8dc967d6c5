pub mod Sums
pub mod LayoutLaws
