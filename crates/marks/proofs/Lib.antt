-- Lemmas on marks.
pub mod Marking
