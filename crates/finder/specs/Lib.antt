pub mod Finders
pub mod Checks
pub mod Pairs
pub mod Boxes
pub mod Filling
pub mod Taking
