pub mod Edges
pub mod Places
pub mod Rows
pub mod Shown
pub mod Victims
