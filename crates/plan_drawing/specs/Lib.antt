pub mod Freed
pub mod Recounts
pub mod Drawn
pub mod Trees
pub mod Gathered
pub use Rattle.content_plan.specs as content_plan
pub use Rattle.plan_pieces.specs as plan_pieces
