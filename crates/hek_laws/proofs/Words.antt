-- The transactions that the words of versions name, and the write sets.
pub mod Names
pub mod Version
pub mod Stamps
pub mod Walks
pub mod Versions
pub mod EachEvent
pub mod Alone
