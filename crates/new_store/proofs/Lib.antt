pub mod EntryLaws
pub mod FitLaws
pub mod KeyLaws
pub mod ShowingLaws
