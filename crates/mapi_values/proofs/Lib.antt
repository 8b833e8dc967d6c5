pub mod CharacterLaws
pub mod RangeLaws
pub mod SpellingLaws
pub mod PrintLaws
pub mod KeyedLaws
pub mod PropertyLaws
pub mod TableLaws
