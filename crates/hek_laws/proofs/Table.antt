-- Each event is one of the rules of the table, and each rule changes the world in one of a few ways.
pub mod SetTxns
pub mod Unchanged
pub mod Cases
pub mod Changes
pub mod WorldSteps
