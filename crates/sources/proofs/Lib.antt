-- A source's words: what the functions read, and the list that a source names.
pub mod SourceWords
pub mod Sourcing
pub mod Lending
pub mod Going
pub mod Readers
mod SliceReaders
