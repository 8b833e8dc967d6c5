pub mod EditLaws
pub mod ItemLaws
pub mod HeapLaws
pub mod KnownLaws
