pub mod Pairs
pub mod Judged
pub mod Effects
pub mod Counts
pub mod Events
pub mod Laws
pub mod Sound
pub mod Grouped
