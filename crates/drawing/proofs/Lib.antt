pub mod Drawings
pub mod Fields
pub mod Lines
pub mod Numerals
pub mod Readings
pub mod Texts
pub mod Whole
