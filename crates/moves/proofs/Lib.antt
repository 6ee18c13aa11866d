-- Lemmas on the reader's steps.
pub mod Stepping
