pub mod Each
pub mod Flags
pub mod Faulty
pub mod Found
mod Walks
