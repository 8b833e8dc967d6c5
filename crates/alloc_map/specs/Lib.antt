pub mod Bounds
pub mod Cells
pub mod Covered
pub mod Ends
pub mod Maps
pub mod Packed
pub mod Rooms
pub mod Slots
pub mod Standing
pub mod Taken
pub mod Tally
pub use Rattle.page_frame.specs as page_frame
