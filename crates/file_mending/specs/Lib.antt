pub mod FileMends
pub use Rattle.file_open.specs as file_open
pub use Rattle.search_mends.specs.search_mending as search_mending
pub use Rattle.search_mends.specs as search_mends
pub use Rattle.file_open.specs.store_open as store_open
