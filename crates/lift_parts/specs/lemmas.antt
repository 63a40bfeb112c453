pub mod Used
pub mod Paired
pub mod Received
pub mod TiedTurns
pub mod Settled
