-- Laws of the words of a signal.
pub mod WholeWords
