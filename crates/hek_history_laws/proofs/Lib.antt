pub mod EndTimes
pub mod InOrder
pub mod NoFault
pub mod Points
pub mod Answered
pub mod Explained
pub mod Recordable
