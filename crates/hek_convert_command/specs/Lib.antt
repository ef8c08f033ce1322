pub mod Answering
pub mod Book
pub mod Bounds
pub mod Changed
pub mod Converted
pub mod Lines
pub mod Logged
pub mod WordText
