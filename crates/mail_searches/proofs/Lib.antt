pub mod PathWalks
pub mod SearchOrder
pub mod AskLaws
pub mod OwnLaws
pub mod CriteriaLaws
pub mod HoldLaws
pub mod Said
