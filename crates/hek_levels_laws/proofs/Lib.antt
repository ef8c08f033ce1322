pub mod Implied
pub mod Fewer
pub mod Bare
pub mod Uncommitted
