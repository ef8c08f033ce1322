pub mod Written
pub mod Recording
pub mod Points
pub mod Laws
