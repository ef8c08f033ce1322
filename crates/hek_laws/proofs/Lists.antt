-- Lists of pairs and of rows, apart from any world.
pub mod Pairs
pub mod Overlay
pub mod Rising
pub mod Maps
