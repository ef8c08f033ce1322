pub mod Changes
pub mod Holders
pub mod Lacks
