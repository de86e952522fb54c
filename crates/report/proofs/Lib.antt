pub mod Alone
pub mod Coming
