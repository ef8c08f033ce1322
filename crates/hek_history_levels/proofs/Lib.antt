pub mod Results
pub mod Elements
pub mod Pushed
pub mod Lefts
pub mod Owned
pub mod Readings
pub mod Takings
