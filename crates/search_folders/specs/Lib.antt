pub mod Comings
pub mod Among
pub mod Pieces
pub mod Givens
pub mod Moves
pub use Rattle.mail_draft.specs as mail_draft
pub use Rattle.mail_folders.specs as mail_folders
pub use Rattle.search_results.specs as search_results
