pub mod StopList
pub mod Parts
pub mod Insertion
pub mod Marks
pub mod Schedule
pub mod Leaving
pub mod lemmas
