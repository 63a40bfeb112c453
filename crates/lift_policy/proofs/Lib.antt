pub mod Runs
pub mod Letters
pub mod States
pub mod Refusals
pub mod Picks
pub mod Decisions
pub mod Verdicts
