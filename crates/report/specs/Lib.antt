pub mod Touches
pub mod Marks
pub mod Directed
pub mod Summaries
pub mod Verdicts
