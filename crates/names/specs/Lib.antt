-- The rule of names, as a test and as document 01's sentence.
pub mod Names
pub mod Sentence
