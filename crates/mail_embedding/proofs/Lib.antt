pub mod Asking
pub mod Calm
pub mod Insides
