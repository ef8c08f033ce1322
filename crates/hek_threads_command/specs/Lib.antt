pub mod Outcomes
pub mod Threaded
