pub mod Announced
