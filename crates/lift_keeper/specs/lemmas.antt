pub mod Keepers
pub mod Committed
