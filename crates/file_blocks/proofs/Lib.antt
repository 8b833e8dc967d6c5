pub mod EntryLaws
pub mod FileLaws
pub mod RoomLaws
pub mod RunLaws
pub mod StandLaws
