pub mod Marks
pub mod Spots
pub mod Placing
pub mod Pieces
