pub mod Joining
pub mod Stops
pub mod PlacingLoops
pub mod MarkRows
pub mod Slices
