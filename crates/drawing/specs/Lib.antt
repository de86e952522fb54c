pub mod Numbers
pub mod Fields
pub mod Letters
pub mod Reasons
pub mod Lines
pub mod Drawings
pub mod Texts
