pub mod Telling
pub mod Chains
pub mod Orders
pub mod Looking
pub mod Unique
pub mod Adding
pub mod Folding
pub mod Putting
