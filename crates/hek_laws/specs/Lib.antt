pub mod Lists
pub mod Rows
pub mod Sound
pub mod Runs
pub mod Laws
