pub mod Runs
pub mod Moves
pub mod Letters
pub mod Single
