pub mod Checked
pub mod Reported
