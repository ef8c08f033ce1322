pub mod Left
pub mod Needs
pub mod Fitting
pub mod Logged
pub mod Commits
pub mod Sources
pub mod Explained
pub mod Runs
