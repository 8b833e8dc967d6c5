pub mod NextLaws
pub mod NodeLaws
pub mod BlockLaws
