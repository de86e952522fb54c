pub mod Layouts
pub mod Rectangles
pub mod Grid
pub mod Worked
pub mod Tables
pub mod Facts
pub mod Models
pub mod Meanings
