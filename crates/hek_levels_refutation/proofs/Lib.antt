pub mod Boxes
pub mod Refuting
