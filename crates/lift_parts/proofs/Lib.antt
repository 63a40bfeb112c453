pub mod Tied
pub mod TiedScan
pub mod TiedTake
pub mod Answering
pub mod TiedFlush
pub mod GoesOn
pub mod Keeps
pub mod OrderedAhead
