pub mod Follows
pub mod ReadLemmas
pub mod SameLemmas
