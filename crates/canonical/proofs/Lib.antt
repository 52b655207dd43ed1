pub mod CanonicalLaws
pub mod Sources
pub mod Demand
pub mod Unsigned
pub mod Entries
pub mod Answers
pub mod Forming
pub mod Pieces
