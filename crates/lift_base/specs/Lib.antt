pub mod Travel
pub mod Command
pub mod History
pub mod Records
pub mod Text
pub mod Input
pub mod Output
pub mod lemmas
