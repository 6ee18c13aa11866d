-- Laws of the test of names, and the theorem that it is the sentence.
pub mod Steps
pub mod NamesExact
