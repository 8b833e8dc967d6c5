pub mod Block
pub mod Size
pub use Rattle.pst_checksum.specs as pst_checksum
