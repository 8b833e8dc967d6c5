pub mod RegisterLaws
pub mod TableRules
pub mod TakenLaws
