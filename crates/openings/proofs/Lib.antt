-- Lemmas on what begins a factor.
pub mod Words
pub mod Openings
pub mod Reaching
