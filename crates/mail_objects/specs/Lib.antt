pub mod Answers
pub mod Forms
pub mod Message
pub mod Objects
pub mod Reading
pub mod Subnodes
pub mod Writing
pub use Rattle.table_writer.specs.table_context as table_context
