pub mod LevelLaws
pub mod WriteLaws
pub mod TreeLaws
pub use Rattle.packed_tree.proofs as packed_tree_laws
