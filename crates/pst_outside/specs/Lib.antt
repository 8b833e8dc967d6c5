pub mod World
pub mod Calls
pub mod Replay
pub mod Memory
pub mod Crash
pub mod Sure
