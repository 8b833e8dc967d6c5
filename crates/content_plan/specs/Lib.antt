pub mod Keep
pub mod Beside
pub mod Told
pub mod Plan
pub mod Put
