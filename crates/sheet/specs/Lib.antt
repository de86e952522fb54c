pub mod Fields
pub mod Rounding
pub mod Models
pub mod Worked
