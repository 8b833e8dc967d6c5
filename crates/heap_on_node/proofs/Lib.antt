pub mod BlockLaws
pub mod DraftLaws
pub mod FinishLaws
pub mod LayoutLaws
pub mod MapLaws
pub mod PackingLaws
pub mod SpreadLaws
