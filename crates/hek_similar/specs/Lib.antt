pub mod Similar
pub mod Forms
pub mod Places
pub mod Holdings
pub mod Alike
pub mod Canonical
pub mod Verdicts
pub mod Laws
