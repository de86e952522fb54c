pub mod Refusals
pub mod Members
pub mod Boxes
pub mod Showing
pub mod Walking
pub mod Rows
mod Shown
