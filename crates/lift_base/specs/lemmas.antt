pub mod Numbers
pub mod Words
pub mod Texts
pub mod Counted
