pub mod Ran
pub mod Driven
