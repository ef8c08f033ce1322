pub mod Committed
pub mod Stamped
