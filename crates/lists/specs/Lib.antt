-- The list check's own words.
pub mod Head
