pub mod Opened
pub use Rattle.file_open.proofs as file_open_laws
pub use Rattle.search_mends.proofs.search_mending_laws as search_mending_laws
pub use Rattle.search_mends.proofs as search_mends_laws
