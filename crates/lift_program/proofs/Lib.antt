mod Asked
mod CarriedOut
mod Commands
mod AnyDevice
mod Flushing
mod Rows
mod Telling
mod Unread
mod Stages
mod Writing
pub mod Counting
