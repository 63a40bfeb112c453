pub mod FirstLines
pub mod Places
pub mod Relayings
pub mod Sessions
