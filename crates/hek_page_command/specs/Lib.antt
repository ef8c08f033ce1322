pub mod Pages
pub mod Explorers
pub mod Sheets
pub mod Tellings
