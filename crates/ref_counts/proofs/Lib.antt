pub mod TableLaws
pub mod SeatLaws
pub mod CountLaws
pub mod ChangeLaws
