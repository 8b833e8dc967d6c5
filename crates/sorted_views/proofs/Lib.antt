pub mod KeyedLaws
pub mod GroupLaws
