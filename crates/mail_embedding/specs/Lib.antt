pub mod Meant
pub use Rattle.embedded_obj.specs as embedded_obj
