pub mod Terms
pub mod Conditions
pub mod Told
pub mod Acts
pub mod Scripts
