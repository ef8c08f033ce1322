pub mod Schedules
pub mod Loading
pub mod Gives
pub mod Places
pub mod Taking
pub mod Laws
