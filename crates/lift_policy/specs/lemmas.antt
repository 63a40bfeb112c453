pub mod Views
pub mod Least
pub mod Steps
pub mod Joins
pub mod Verdicts
pub mod Present
