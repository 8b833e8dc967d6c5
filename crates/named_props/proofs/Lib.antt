pub mod AddedLaws
pub mod EntryLaws
pub mod FoundLaws
pub mod KeyLaws
pub mod ListLaws
pub mod ReadLaws
pub mod RoomLaws
pub mod WriteLaws
