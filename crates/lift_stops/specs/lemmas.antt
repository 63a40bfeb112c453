pub mod Insertion
pub mod Halts
pub mod Listed
pub mod Leaving
