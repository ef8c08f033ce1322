pub mod Table
pub mod Lists
pub mod Walks
pub mod Worlds
pub mod Words
pub mod Futures
pub mod Runs
pub mod Sound
