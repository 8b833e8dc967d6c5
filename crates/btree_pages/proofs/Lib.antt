pub mod PageLaws
pub mod WriteLaws
