pub mod EntryLaws
pub mod FindLaws
pub mod RowLaws
pub mod TellLaws
