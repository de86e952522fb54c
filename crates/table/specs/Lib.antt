pub mod Records
pub mod Listings
pub mod Search
pub mod Laws
pub mod Contents
pub mod Soundness
pub mod Tables
