pub mod Reads
pub mod Changes
pub mod Fits
pub mod Taking
pub mod Steps
