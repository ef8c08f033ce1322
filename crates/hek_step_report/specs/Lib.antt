pub mod Clock
pub mod StateText
