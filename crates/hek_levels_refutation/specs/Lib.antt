pub mod Claims
pub mod Candidates
