pub mod HistoryLemmas
pub mod Sums
pub mod EntryLemmas
pub mod KeptLemmas
pub mod Laws
pub mod BaseLemmas
