pub mod DepthLaws
pub mod HoldLaws
pub mod InnerLaws
pub mod NameLaws
