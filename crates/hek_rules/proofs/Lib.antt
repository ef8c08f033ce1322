mod NumberLemmas
pub mod Least
pub mod Leads
pub mod Bound
pub mod VictimLaw
pub mod Agree
pub mod PlanLemmas
pub mod NameLemmas
pub mod SameLemmas
pub mod TextLemmas
pub mod Mapped
pub mod Zips
pub mod TakeLemmas
