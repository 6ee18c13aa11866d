-- The citations.
pub mod Cited
