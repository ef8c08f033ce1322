-- Whole runs: the invariant from the opening world on, and what it gives at the end.
pub mod Whole
pub mod Opening
pub mod Final
pub mod PlaceByPlace
pub mod NoFault
pub mod Reachable
pub mod Committers
