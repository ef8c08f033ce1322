pub mod MayLock
pub mod Shows
