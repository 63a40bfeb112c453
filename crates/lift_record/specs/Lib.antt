pub mod Version
pub mod Record
pub mod Header
pub mod lemmas
