pub mod HolderLaws
pub mod SlotLaws
pub mod WordLaws
