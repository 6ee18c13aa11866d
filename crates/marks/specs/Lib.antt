-- Marks, and the text that is lent.
pub mod Marks
