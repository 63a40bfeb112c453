pub mod Notified
