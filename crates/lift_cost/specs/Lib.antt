pub mod Calls
pub mod Cost
pub mod Laws
pub mod Ways
pub mod Delays
