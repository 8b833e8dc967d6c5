pub mod TextLaws
pub mod WidthLaws
pub mod WorkLaws
