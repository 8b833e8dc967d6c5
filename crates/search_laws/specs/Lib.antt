pub mod Laws
pub use Rattle.search_lists.specs as search_lists
