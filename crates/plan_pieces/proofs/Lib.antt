pub mod ListLaws
pub mod PageLaws
pub mod BlockLaws
pub mod GrowLaws
pub mod JoinLaws
