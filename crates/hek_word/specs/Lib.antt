pub mod Decoded
pub mod WordLemmas
pub mod Canonical
