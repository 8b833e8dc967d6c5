pub mod Edits
pub mod Items
pub mod Heaps
pub mod Known
pub mod NewItems
