pub mod Empty
pub mod Known
