-- Sound worlds: every world that a run reaches is sound.
pub mod WaitCounts
pub mod WaitsFall
pub mod Flags
pub mod Singles
pub mod Listed
pub mod Entries
pub mod Standing
pub mod Grounded
pub mod Firm
pub mod InWalks
pub mod WordsAndSights
pub mod Named
