pub mod Limits
pub mod Spares
pub mod Times
pub mod Getters
pub mod Described
pub mod Again
