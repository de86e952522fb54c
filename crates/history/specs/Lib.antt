pub mod Sheets
pub mod Rounds
pub mod Histories
pub mod Laws
