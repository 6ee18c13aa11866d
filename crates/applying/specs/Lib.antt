-- A part's operation: definitions that mirror the code.
pub mod PartCalls
pub mod Merges
pub mod Applied
