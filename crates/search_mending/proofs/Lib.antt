pub mod RowLaws
pub mod SaysLaws
pub mod StayLaws
pub mod TouchLaws
pub mod MendLaws
pub mod AllLaws
