-- Proofs of the statements of specs/, and the lemmas that they and the proofs of functions share.
pub mod ReadingFacts
pub mod Counting
pub mod AlongWords
pub mod ReaderSays
