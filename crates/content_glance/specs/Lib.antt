pub mod Glances
pub mod Rows
pub use Rattle.heap_edit.specs as heap_edit
