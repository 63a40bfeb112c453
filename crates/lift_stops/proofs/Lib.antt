pub mod Marked
pub mod Leavings
pub mod Kept
