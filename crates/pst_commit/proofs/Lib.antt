pub mod Outcomes
pub mod Scatter
pub mod Holding
pub mod HeldLaws
pub mod PinLaws
pub mod MapWrites
pub mod Saves
pub mod Resaved
pub use Rattle.lays_kept.proofs as lays_kept_laws
