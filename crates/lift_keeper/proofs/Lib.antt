pub mod Recoveries
pub mod Recovering
pub mod Histories
pub mod Applying
pub mod Guarding
pub mod Reopenings
pub mod Writers
