pub mod Noting
pub mod PairSpots
pub mod GatheredMarks
