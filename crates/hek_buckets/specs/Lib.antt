pub mod LockLists
pub mod Waited
