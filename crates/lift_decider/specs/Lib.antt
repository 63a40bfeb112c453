pub mod Decider
pub mod Schedules
