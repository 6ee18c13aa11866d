-- Lemmas on runs of bytes and lengths.
pub mod Runs
