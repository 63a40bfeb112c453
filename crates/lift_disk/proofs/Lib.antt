pub mod Fills
pub mod Cuts
mod Places
mod Passed
mod OnFile
mod OneSector
mod Synced
mod Traces
mod Walks
pub mod Waiting
pub mod Joined
pub mod MemoryRuns
